-- The useless versions of document 01 ("How firm each statement is"), as servers: five that meet demand 3 and break demand 2, and one
-- that invents counts; and one that demand 3 excludes. A term of each theorem stands in proofs/.
use Rattle.std.specs.Prelude.{ℕ, ◌*◌, ◌≡◌, ◌&&◌, cond, List, [], ◌∷◌, ◌++◌, eqb, length, take, drop, replicate}
use Rattle.zigbee_types.specs.Outcome.{Outcome, answer, refusal, mapped, fitted, written}
use Rattle.zigbee_types.specs.Statuses.{TABLE_FULL}
use Rattle.aps_binding_table.specs.Table.{empty_table, held}
use Rattle.aps_binding_table.specs.declared.binding.BindingTable.{BindingTable}
use Rattle.zdo_requests.specs.Clusters.{NODE_DESC_REQ_NUMBER, MATCH_DESC_REQ_NUMBER, BIND_REQ_NUMBER, reply_cluster}
use Rattle.zdo_discovery.specs.Host.{Host, Asked}
use Rattle.zdo_dispatcher.specs.Answers.{Answer, reply, leave, Told, replied, leaving, answered}
use Rattle.our_device.specs.OurDevice.{ours}
use Rattle.demands.specs.Cases.{bind_a, bind_b}
use Rattle.demands.specs.ReadersRefuse.{byte_of}
use Rattle.demands.specs.Servers.{Request, asked_of, Server, state_after, with_table, comes_of, dispatcher, seen}
use Rattle.demands.specs.Demand3.{Demand3}
use Rattle.demands.specs.Rules.{says_success, HistoryRule, MatchingRule}

-- ---- servers that hold nothing

-- a server that holds nothing and keeps its limit: it replies to what is asked with a cluster and bytes, or refuses
unfoldable pub holding_nothing : (ℕ → Asked → ℕ) → (ℕ → Asked → Outcome (List ℕ)) → Server ℕ
holding_nothing cluster bytes =
    record {
      empty = λ limit. limit;
      entries = λ limit. [];
      count = λ limit. 0;
      serve = λ limit r.
          let a = asked_of r in
          let o = fitted a.room (bytes limit a) in
          record { told = mapped (λ xs. replied (cluster limit a) (length xs)) o; buffer = written r.buffer o; state = limit };
    }

-- it only refuses, by a number
unfoldable pub refusing : ℕ → Server ℕ
refusing n = holding_nothing (λ limit a. 0) (λ limit a. refusal n)

-- it has a fixed reply: a cluster and bytes
unfoldable pub fixed : ℕ → List ℕ → Server ℕ
fixed cluster bytes = holding_nothing (λ limit a. cluster) (λ limit a. answer bytes)

-- it answers TABLE_FULL to all: seq, status
unfoldable pub full : Server ℕ
full = holding_nothing (λ limit a. reply_cluster a.cluster) (λ limit a. answer (byte_of a.payload 0 ∷ TABLE_FULL ∷ []))

-- it tells its limit to all
unfoldable pub telling_limit : Server ℕ
telling_limit = holding_nothing (λ limit a. reply_cluster a.cluster) (λ limit a. answer (limit ∷ []))

-- ---- servers that bind

-- a reply of no bytes
unfoldable pub without_bytes : Told → Told
without_bytes (replied cluster n) = replied cluster 0
without_bytes (leaving q) = leaving q

-- it binds as ours binds, and writes nothing: its replies have no bytes, and the buffer stays
unfoldable pub silent : Host → Server BindingTable
silent h =
    with_table (λ t r.
    let s = (dispatcher h).serve t r in
    record { told = mapped without_bytes s.told; buffer = r.buffer; state = s.state })

-- a table that has no room left
unfoldable pub sealed : BindingTable → BindingTable
sealed t = record { entries = t.entries; limit = t.count; count = t.count }

-- it is as ours, but binds only at the first call: after each call its table has no room left
unfoldable pub once : Host → Server BindingTable
once h =
    with_table (λ t r.
    let s = (dispatcher h).serve t r in
    record { told = s.told; buffer = s.buffer; state = sealed s.state })

-- a match reply with the status SUCCESS, with nine in byte 4; any other outcome is as it was
unfoldable pub with_nine : Outcome Answer → Outcome Answer
with_nine (answer (reply cluster bytes u)) =
    let invents = eqb cluster (reply_cluster MATCH_DESC_REQ_NUMBER) && says_success bytes in
    answer (reply cluster (cond invents (take 4 bytes ++ 9 ∷ drop 5 bytes) bytes) u)
with_nine (answer (leave q)) = answer (leave q)
with_nine (refusal n) = refusal n

-- it is as ours, but invents counts: nine in a match reply, and twice as many entries as it holds
unfoldable pub inventing : Host → Server BindingTable
inventing h =
    record { empty = empty_table; entries = held; count = λ t. 2 * t.count; serve = λ t r. comes_of t r (with_nine (answered h t (asked_of r))) }

-- ---- the requests that show it, with a buffer of 32 zeros

abbrev pub requesting : ℕ → List ℕ → Request
requesting cluster payload = record { cluster = cluster; payload = payload; buffer = replicate 32 0 }

-- a node request about our device, with a sequence number
abbrev pub node_request : ℕ → Request
node_request seq = requesting NODE_DESC_REQ_NUMBER (seq ∷ 0x34 ∷ 0x12 ∷ [])

-- K1: the reply to it, if that number is 7
abbrev pub node_reply : List ℕ
node_reply = 0x07 ∷ 0x00 ∷ 0x34 ∷ 0x12 ∷ 0x02 ∷ 0x40 ∷ 0x80 ∷ 0xCD ∷ 0xAB ∷ 0x52 ∷ 0x80 ∷ 0x00 ∷ 0x00 ∷ 0x2C ∷ 0x80 ∷ 0x00 ∷ 0x00 ∷ []

-- K10's request, and the same to another group
abbrev pub bind_request_a : Request
bind_request_a = requesting BIND_REQ_NUMBER bind_a

abbrev pub bind_request_b : Request
bind_request_b = requesting BIND_REQ_NUMBER bind_b

-- ---- the statements

-- after these requests, from empty with limit 32, what is seen of a server's answer to one more is not what is seen of our device's
abbrev pub Differs : {S : Type 0} → Server S → List Request → Request → Type 0
Differs s rs r =
    seen (s.serve (state_after s (s.empty 32) rs) r) ≡ seen ((dispatcher ours).serve (state_after (dispatcher ours) (empty_table 32) rs) r)
    → ⊥

-- it meets demand 3 for every host, and for our device it breaks demand 2 on a request
pub record Useless {S : Type 0} (s : Host → Server S) (rs : List Request) (r : Request) : Type 0 where
  pub meets : (h : Host) → Demand3 (s h)
  pub differs : Differs (s ours) rs r

-- the five
pub record UselessVersions : Type 0 where
  pub refuses : (n : ℕ) → Useless (λ h. refusing n) [] (node_request 7)
  pub replies : Useless (λ h. fixed 0x8002 node_reply) [] (node_request 8)
  pub writes_nothing : Useless silent [] (node_request 7)
  pub always_full : Useless (λ h. full) [] bind_request_a
  pub binds_once : Useless once (bind_request_a ∷ []) bind_request_b

-- invented counts meet demand 3 too, and for our device they break the matching rule and the history rule
pub record InventedCount : Type 0 where
  pub meets : (h : Host) → Demand3 (inventing h)
  pub matching : MatchingRule ours (inventing ours) → ⊥
  pub history : HistoryRule (inventing ours) → ⊥

-- a server that tells its limit does not meet demand 3
abbrev pub LimitTold : Type 0
LimitTold = Demand3 telling_limit → ⊥
