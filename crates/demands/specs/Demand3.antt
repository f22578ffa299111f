-- The third demand, more room never loses a binding, as a statement about any server; and that ours meets it. A term of each theorem
-- stands in proofs/.
use Rattle.std.specs.Prelude.{ℕ, ◌≤◌, ◌≡◌, true, false, List, ◌∷◌, map}
use Rattle.zigbee_types.specs.Outcome.{Outcome}
use Rattle.zigbee_types.specs.Statuses.{SUCCESS, NO_ENTRY, TABLE_FULL}
use Rattle.aps_binding.specs.declared.binding.Binding.{Binding}
use Rattle.aps_binding_table.specs.Held.{holds}
use Rattle.zdo_requests.specs.Clusters.{BIND_REQ_NUMBER, UNBIND_REQ_NUMBER}
use Rattle.zdo_discovery.specs.Host.{Host}
use Rattle.zdo_dispatcher.specs.Answers.{Told}
use Rattle.demands.specs.Demand1.{link_clusters, among}
use Rattle.demands.specs.Servers.{Request, asked_of, Server, state_after, dispatcher, Seen, seen}

-- what is seen where byte 1 of the reply is this status
abbrev pub replying : Outcome Told → ℕ → ℕ → List ℕ → Seen
replying told seq status rest = record { told = told; bytes = seq ∷ status ∷ rest }

-- what is seen in a first run and in a second, by the cluster of the request: the same; but where a bind has TABLE_FULL in the first, or
-- an unbind NO_ENTRY, the second may have SUCCESS in its place, with nothing else changed. (The demand's words would permit either
-- status to either request.)
pub data Alike (cluster : ℕ) : Seen → Seen → Type 0 where
  equal : (s : Seen) → Alike cluster s s
  room : (told : Outcome Told) (seq : ℕ) (rest : List ℕ) → cluster ≡ BIND_REQ_NUMBER → Alike cluster (replying told seq TABLE_FULL rest) (replying told seq SUCCESS rest)
  kept : (told : Outcome Told) (seq : ℕ) (rest : List ℕ) → cluster ≡ UNBIND_REQ_NUMBER → Alike cluster (replying told seq NO_ENTRY rest) (replying told seq SUCCESS rest)

-- of two states: every entry held in the first is held in the second; and whatever is asked next, with a buffer of the same length in
-- both, what is seen is alike
pub record Ahead {S : Type 0} (s : Server S) (x y : S) : Type 0 where
  pub entries : (b : Binding) → holds b (s.entries x) ≡ true → holds b (s.entries y) ≡ true
  pub answers : (r q : Request) → asked_of r ≡ asked_of q → Alike r.cluster (seen (s.serve x r)) (seen (s.serve y q))

-- so it is at each step of two runs in which the same is asked, with buffers of the same lengths, from empty, the second with an equal or
-- larger limit, both at most 32: rs and qs are the requests so far, and `answers` speaks of the next one
abbrev pub Demand3 : {S : Type 0} → Server S → Type 0
Demand3 s =
    (less more : ℕ)
    → less ≤ more
    → more ≤ 32
    → (rs qs : List Request)
    → map asked_of rs ≡ map asked_of qs
    → Ahead s (state_after s (s.empty less) rs) (state_after s (s.empty more) qs)

-- our server meets it, whatever the host
abbrev pub MoreRoom : Type 0
MoreRoom = (h : Host) → Demand3 (dispatcher h)

-- by what `Alike` permits, what has SUCCESS in the first run has it in the second, with the same bytes
abbrev pub SuccessStays : Type 0
SuccessStays =
    (cluster : ℕ) (told : Outcome Told) (seq : ℕ) (rest : List ℕ) (s : Seen)
    → Alike cluster (replying told seq SUCCESS rest) s
    → s ≡ replying told seq SUCCESS rest

-- and what is seen of any request but a bind or an unbind is the same in both
abbrev pub OthersSame : Type 0
OthersSame = (cluster : ℕ) (s u : Seen) → among link_clusters cluster ≡ false → Alike cluster s u → u ≡ s
