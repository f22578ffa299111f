-- The table of all cases, and the one claim about it.
use Rattle.std.specs.Prelude.{◌≡◌, List, [], ◌∷◌, map}
use Rattle.demands.specs.Cases.{Case}
use Rattle.demands.specs.CounterCases.{K1, K2, K3, K4, K5, K6, K7, K8, K9, K10, K11}
use Rattle.demands.specs.ProgramCases.{Sample, Typed, Long, Ending, Full}
use Rattle.demands.specs.DispatchCases.{NwkAddr, IeeeAddr, Elsewhere, Ours, Sequence, HostTables, Linking, Shifting, RefusalOrder, Left, Telling}
use Rattle.demands.specs.RequestCases.{AddrPayloads, InterestPayloads, MatchPayloads, BindPayloads, RequestedEntries, LeavePayloads}
use Rattle.demands.specs.ReplyCases.{DescriptorReplies, ListReplies, SimpleReplies, AddressReplies, StatusReplies}
use Rattle.demands.specs.DeviceCases.{Matching, Repeated, Records, Supported, Numbers, NoRecords, LongList, Parts, TableChecks, RecordChecks, Crowded}
use Rattle.demands.specs.MatchingCases.{MatchingAnswers, Profiles, BothLists, PlaceChecks, Buffers}
use Rattle.demands.specs.BindingCases.{Equality, Formed, LinkStatuses, Links, LeftTables, Counted}
use Rattle.demands.specs.ReaderCases.{ReadDescriptors, ReadLists, ReadSimple, ReadAddresses, DefaultNode, ReservedNumbers, NamedNumbers, SourceSets, FlagBits, StatusCodes}

-- K1 to K11, the sample, and the cases of the other rules
unfoldable pub cases : List Case
cases =
    K1 ∷ K2 ∷ K3 ∷ K4 ∷ K5 ∷ K6 ∷ K7 ∷ K8 ∷ K9 ∷ K10 ∷ K11
    ∷ Sample ∷ Typed ∷ Long ∷ Ending ∷ Full
    ∷ NwkAddr ∷ IeeeAddr ∷ Elsewhere ∷ Ours ∷ Sequence ∷ HostTables ∷ Linking ∷ Shifting ∷ RefusalOrder ∷ Left ∷ Telling
    ∷ AddrPayloads ∷ InterestPayloads ∷ MatchPayloads ∷ BindPayloads ∷ RequestedEntries ∷ LeavePayloads
    ∷ DescriptorReplies ∷ ListReplies ∷ SimpleReplies ∷ AddressReplies ∷ StatusReplies
    ∷ Matching ∷ Repeated ∷ Records ∷ Supported ∷ Numbers ∷ NoRecords ∷ LongList ∷ Parts ∷ TableChecks ∷ RecordChecks ∷ Crowded
    ∷ MatchingAnswers ∷ Profiles ∷ BothLists ∷ PlaceChecks ∷ Buffers
    ∷ Equality ∷ Formed ∷ LinkStatuses ∷ Links ∷ LeftTables ∷ Counted
    ∷ ReadDescriptors ∷ ReadLists ∷ ReadSimple ∷ ReadAddresses ∷ DefaultNode ∷ ReservedNumbers ∷ NamedNumbers ∷ SourceSets ∷ FlagBits ∷ StatusCodes
    ∷ []

-- in each entry the definitions say what is expected of them
unfoldable pub CounterCases : Type 0
CounterCases = map (λ c. c.says) cases ≡ map (λ c. c.expected) cases
