-- The address of interest, from the request that was read. Assumes nothing.
use Rattle.std.specs.Prelude.{Result, Ok}
use Prim.Native.Nat.{ℕ}
use mathlib.Core.Path.{◌≡◌}
use mathlib.Core.List.{List}
use Rattle.zigbee_types.specs.Answers.{says}
use Rattle.zigbee_types.specs.Outcome.{mapped}
use Rattle.zigbee_types.specs.declared.Refusal.{Refusal}
use Rattle.zdo_requests.specs.Requests.{addr_of_interest_req_in, addr_of_interest_in}
use Rattle.zdo_requests.specs.declared.descriptor.AddrOfInterestReq.{AddrOfInterestReq}

-- the address of the request that a reader said is the one that the bytes come to
pub interest_address :
    (bytes : List ℕ) (read : Result AddrOfInterestReq Refusal)
    → says read ≡ addr_of_interest_req_in bytes
    → {q : AddrOfInterestReq}
    → read ≡ Ok q
    → says (Ok q.nwk_addr_of_interest) ≡ addr_of_interest_in bytes
unfolding says addr_of_interest_in mapped
interest_address bytes read said e = rw (← said, e)
