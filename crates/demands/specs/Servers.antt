-- Servers: what answers requests, one after the other, as its callers see it. Ours is one of them.
use Rattle.std.specs.Prelude.{ℕ, ◌≡◌, List, [], take}
use Rattle.zigbee_types.specs.Outcome.{Outcome, answer, refusal, mapped}
use Rattle.aps_binding_table.specs.Table.{empty_table, held}
use Rattle.aps_binding.specs.declared.binding.Binding.{Binding}
use Rattle.aps_binding_table.specs.declared.binding.BindingTable.{BindingTable}
use Rattle.zdo_discovery.specs.Host.{Host, Asked, asking}
use Rattle.zdo_dispatcher.specs.Answers.{Answer, Told, replied, leaving, told_of, answered, table_after, buffer_after, Dispatched}
use Rattle.demands.specs.Runs.{left}

-- a request, with the buffer that is lent for its reply
pub record Request : Type 0 where
  pub cluster : ℕ
  pub payload : List ℕ
  pub buffer : List ℕ

-- what is asked by it: its cluster, its payload, and how long the buffer is
abbrev pub asked_of : Request → Asked
asked_of r = asking r.cluster r.payload r.buffer

-- what comes of it: what is told, what the buffer then holds, and the state after it
pub record Served (S : Type 0) : Type 0 where
  pub told : Outcome Told
  pub buffer : List ℕ
  pub state : S

-- a server: its state at first, by the binding limit; the entries that it holds, and how many it says they are; and what comes of a
-- request
pub record Server (S : Type 0) : Type 0 where
  pub empty : ℕ → S
  pub entries : S → List Binding
  pub count : S → ℕ
  pub serve : S → Request → Served S

module _ {S : Type 0} (s : Server S) where
  -- the state after a request
  abbrev pub next_state : S → Request → S
  next_state x r = (s.serve x r).state

  -- and after requests, one after the other
  abbrev pub state_after : S → List Request → S
  state_after = left next_state

-- a server that has a binding table as its state, and serves so
unfoldable pub with_table : (BindingTable → Request → Served BindingTable) → Server BindingTable
with_table serve = record { empty = empty_table; entries = held; count = λ t. t.count; serve = serve }

-- ---- ours

-- what comes of a request on a table, where it comes to this outcome
unfoldable pub comes_of : BindingTable → Request → Outcome Answer → Served BindingTable
comes_of t r o = record { told = mapped told_of o; buffer = buffer_after r.buffer o; state = table_after t o }

-- our server, for a host: what the contract of `dispatch` says of any request
unfoldable pub dispatcher : Host → Server BindingTable
dispatcher h = with_table (λ t r. comes_of t r (answered h t (asked_of r)))

-- whatever that contract permits is what our server does
abbrev pub OursDispatches : Type 0
OursDispatches =
    (h : Host) (t : BindingTable) (r : Request) (told : Outcome Told) (u : BindingTable) (after : List ℕ)
    → Dispatched (answered h t (asked_of r)) t r.buffer told u after
    → record { told = told; buffer = after; state = u } ≡ (dispatcher h).serve t r

-- ---- what is seen

-- the bytes of a reply: as many of the buffer as are told
unfoldable pub bytes_of : Outcome Told → List ℕ → List ℕ
bytes_of (answer (replied cluster n)) buffer = take n buffer
bytes_of (answer (leaving q)) buffer = []
bytes_of (refusal n) buffer = []

-- what a caller sees of an answer: its kind, with a reply's cluster and length, a leave's request or a refusal's number; and the
-- bytes of a reply
pub record Seen : Type 0 where
  pub told : Outcome Told
  pub bytes : List ℕ

-- so it is of what comes of a request
unfoldable pub seen : {S : Type 0} → Served S → Seen
seen s = record { told = s.told; bytes = bytes_of s.told s.buffer }
