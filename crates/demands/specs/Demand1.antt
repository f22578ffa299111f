-- The first demand, as a statement: each request comes to a reply, to a leave, or to a refusal by one of document 01's five numbers; a
-- refusal changes neither buffer nor binding table; and each number is given exactly when document 01 says, in numbers of the payload,
-- the tables and the room ("Refusal numbers", "Payloads", "Replies"). A term of it stands in proofs/. (That each call ends is proved of
-- every function with its contract. What the other public functions refuse, their contracts say.) No parser and no reply stands in the conditions; how many records match a request goes by the rule
-- itself, `matches`.
use Rattle.std.specs.Prelude.{ℕ, ◌+◌, ◌*◌, ◌≤◌, ◌≡◌, Bool, true, false, ◌||◌, ◌&&◌, not, cond, List, [], ◌∷◌, ◌++◌, eqb, ltb, length, replicate, Option}
use Rattle.zigbee_types.specs.Outcome.{Outcome, answer, refusal}
use Rattle.zigbee_types.specs.Bytes.{number_at}
use Rattle.zigbee_types.specs.Layout.{fields_at}
use Rattle.zigbee_types.specs.Lists.{any, filter, option}
use Rattle.simple_descriptor.specs.SimpleDescriptor.{Endpoint}
use Rattle.aps_binding_table.specs.declared.binding.BindingTable.{BindingTable}
use Rattle.zdo_requests.specs.Clusters.{NWK_ADDR_REQ_NUMBER, IEEE_ADDR_REQ_NUMBER, NODE_DESC_REQ_NUMBER, POWER_DESC_REQ_NUMBER, SIMPLE_DESC_REQ_NUMBER, ACTIVE_EP_REQ_NUMBER, MATCH_DESC_REQ_NUMBER, BIND_REQ_NUMBER, UNBIND_REQ_NUMBER, MGMT_LEAVE_REQ_NUMBER}
use Rattle.zdo_requests.specs.declared.descriptor.MgmtLeaveReq.{MgmtLeaveReq}
use Rattle.zdo_device.specs.Tables.{Pools, used, endpoint_record}
use Rattle.zdo_device.specs.declared.descriptor.EndpointDescriptor.{EndpointDescriptor}
use Rattle.zdo_matching.specs.Matching.{Wanted, matches}
use Rattle.zdo_discovery.specs.Host.{Host, Asked, resolved}
use Rattle.zdo_dispatcher.specs.Answers.{Answer, reply, leave, Told, answered, Dispatched}
use Rattle.demands.specs.ReadersRefuse.{byte_of, shorter}

-- ---- 1: tables

-- does a record run past one of its pools? A part without clusters may not start past the end of its pool either
unfoldable pub runs_past : Pools → EndpointDescriptor → Bool
runs_past p e =
    ltb (length p.inputs) (e.input_start + e.input_count)
    || ltb (length p.outputs) (e.output_start + e.output_count)

-- more than 32 records, a pool of more than 512 clusters, or a record in use that runs past its pool
unfoldable pub bad_device : Host → Bool
bad_device h =
    ltb 32 h.device.endpoint_count
    || ltb 512 (length h.pools.inputs)
    || ltb 512 (length h.pools.outputs)
    || any (runs_past h.pools) (used h.device)

-- a binding count above its limit, or a limit above 32
unfoldable pub bad_table : BindingTable → Bool
bad_table t = ltb t.limit t.count || ltb 32 t.limit

-- bad tables of the device, or a bad binding table
unfoldable pub bad_tables : Host → BindingTable → Bool
bad_tables h t = bad_device h || bad_table t

-- ---- 2: clusters

-- the seven discovery requests
abbrev pub discovery_clusters : List ℕ
discovery_clusters = NWK_ADDR_REQ_NUMBER ∷ IEEE_ADDR_REQ_NUMBER ∷ NODE_DESC_REQ_NUMBER ∷ POWER_DESC_REQ_NUMBER ∷ SIMPLE_DESC_REQ_NUMBER ∷ ACTIVE_EP_REQ_NUMBER ∷ MATCH_DESC_REQ_NUMBER ∷ []

-- bind and unbind
abbrev pub link_clusters : List ℕ
link_clusters = BIND_REQ_NUMBER ∷ UNBIND_REQ_NUMBER ∷ []

-- the ten requests
abbrev pub request_clusters : List ℕ
request_clusters = discovery_clusters ++ link_clusters ++ MGMT_LEAVE_REQ_NUMBER ∷ []

-- is a cluster among these?
unfoldable pub among : List ℕ → ℕ → Bool
among clusters cluster = any (eqb cluster) clusters

-- the cluster is none of the ten
unfoldable pub unknown : Asked → Bool
unknown a = not (among request_clusters a.cluster)

-- ---- 3: payloads

-- what a table has for a cluster; 0 where it has nothing
unfoldable pub for_cluster : List (ℕ × ℕ) → ℕ → ℕ
for_cluster [] cluster = 0
for_cluster ((c, n) ∷ rows) cluster = cond (eqb cluster c) n (for_cluster rows cluster)

-- a match request: seven bytes, and two for each cluster; the inputs are counted at byte 5, the outputs behind them
unfoldable pub match_bytes : List ℕ → ℕ
match_bytes payload =
    let inputs = byte_of payload 5 in
    7 + 2 * inputs + 2 * byte_of payload (6 + 2 * inputs)

-- a bind or an unbind request: 15 bytes, and 22 in mode 3; byte 12 is the mode
unfoldable pub bind_bytes : List ℕ → ℕ
bind_bytes payload = cond (eqb (byte_of payload 12) 3) 22 15

-- how many bytes a request needs
unfoldable pub bytes_needed : Asked → ℕ
bytes_needed a =
    for_cluster
    ((NWK_ADDR_REQ_NUMBER, 10)
    ∷ (IEEE_ADDR_REQ_NUMBER, 4)
    ∷ (NODE_DESC_REQ_NUMBER, 3)
    ∷ (POWER_DESC_REQ_NUMBER, 3)
    ∷ (SIMPLE_DESC_REQ_NUMBER, 4)
    ∷ (ACTIVE_EP_REQ_NUMBER, 3)
    ∷ (MATCH_DESC_REQ_NUMBER, match_bytes a.payload)
    ∷ (BIND_REQ_NUMBER, bind_bytes a.payload)
    ∷ (UNBIND_REQ_NUMBER, bind_bytes a.payload)
    ∷ (MGMT_LEAVE_REQ_NUMBER, 10)
    ∷ [])
    a.cluster

-- a bind or an unbind of a mode other than 1 and 3
unfoldable pub bad_mode : Asked → Bool
bad_mode a =
    let mode = byte_of a.payload 12 in
    among link_clusters a.cluster && not (eqb mode 1 || eqb mode 3)

-- fewer bytes than the request needs, or a bad mode
unfoldable pub malformed : Asked → Bool
malformed a = shorter a.payload (bytes_needed a) || bad_mode a

-- ---- 4: simple descriptors

-- is a request about our short address? It stands at bytes 1 and 2
unfoldable pub about_us : Host → List ℕ → Bool
about_us h payload = eqb (number_at 2 payload 1) h.nwk_addr.0

-- the record that a simple request is about: the first with the number at byte 3, if there is one
unfoldable pub record_asked : Host → List ℕ → Option EndpointDescriptor
record_asked h payload = endpoint_record h.device (byte_of payload 3)

-- how many clusters a record has on its two sides
abbrev pub record_clusters : EndpointDescriptor → ℕ
record_clusters e = e.input_count + e.output_count

-- a simple request about us and a record that has more than 28 clusters
unfoldable pub crowded : Host → Asked → Bool
crowded h a =
    eqb a.cluster SIMPLE_DESC_REQ_NUMBER && about_us h a.payload
    && option false (λ e. ltb 28 (record_clusters e)) (record_asked h a.payload)

-- ---- 5: replies

-- what a match request looks for: the profile at bytes 3 and 4, then the two lists, two bytes for each cluster
unfoldable pub looked_for : List ℕ → Wanted
looked_for payload =
    let inputs = byte_of payload 5 in
    record {
      profile = number_at 2 payload 3;
      inputs = fields_at (replicate inputs 2) payload 6;
      outputs = fields_at (replicate (byte_of payload (6 + 2 * inputs)) 2) payload (7 + 2 * inputs);
    }

-- those of our endpoints that match it, in table order
unfoldable pub matched : Host → List ℕ → List Endpoint
matched h payload = filter (matches (looked_for payload)) (resolved h)

-- an address reply: 14 bytes where it is extended, that is about us and of type 1, and else 12
unfoldable pub address_room : Bool → ℕ → ℕ
address_room us type = cond (us && eqb type 1) 14 12

-- a simple reply about us: 13 bytes and two for each cluster of the record; 5 where there is no record
unfoldable pub simple_room : Host → List ℕ → ℕ
simple_room h payload = option 5 (λ e. 13 + 2 * record_clusters e) (record_asked h payload)

-- how many bytes of room the reply needs. A leave needs none: nothing is written
unfoldable pub room_needed : Host → Asked → ℕ
room_needed h a =
    let payload = a.payload in
    let us = about_us h payload in
    for_cluster
    ((NWK_ADDR_REQ_NUMBER, address_room (eqb (number_at 8 payload 1) h.ieee_addr.0) (byte_of payload 9))
    ∷ (IEEE_ADDR_REQ_NUMBER, address_room us (byte_of payload 3))
    ∷ (NODE_DESC_REQ_NUMBER, cond us 17 4)
    ∷ (POWER_DESC_REQ_NUMBER, cond us 6 4)
    ∷ (SIMPLE_DESC_REQ_NUMBER, cond us (simple_room h payload) 5)
    ∷ (ACTIVE_EP_REQ_NUMBER, cond us (5 + length (used h.device)) 5)
    ∷ (MATCH_DESC_REQ_NUMBER, cond us (5 + length (matched h payload)) 3)
    ∷ (BIND_REQ_NUMBER, 2)
    ∷ (UNBIND_REQ_NUMBER, 2)
    ∷ (MGMT_LEAVE_REQ_NUMBER, 0)
    ∷ [])
    a.cluster

-- the reply is longer than the buffer
unfoldable pub too_long : Host → Asked → Bool
too_long h a = ltb a.room (room_needed h a)

-- ---- the demand

-- what an outcome may be: a reply, with the request's cluster raised and of the length that was looked at for refusal 5; a leave, for a
-- leave request and no other; or a refusal numbered 1 to 5
pub data Allowed (h : Host) (a : Asked) : Outcome Answer → Type 0 where
  replies :
      (bytes : List ℕ) (u : BindingTable)
      → (a.cluster ≡ MGMT_LEAVE_REQ_NUMBER → ⊥)
      → length bytes ≡ room_needed h a
      → length bytes ≤ a.room
      → Allowed h a (answer (reply (a.cluster + 0x8000) bytes u))
  leaves : (q : MgmtLeaveReq) → a.cluster ≡ MGMT_LEAVE_REQ_NUMBER → Allowed h a (answer (leave q))
  refuses : (n : ℕ) → 1 ≤ n → n ≤ 5 → Allowed h a (refusal n)

-- whatever the contract of `dispatch` permits where a refusal is told, the binding table and the buffer are as they were
abbrev pub Kept : Outcome Answer → BindingTable → Type 0
Kept o t =
    (n : ℕ) (told : Outcome Told) (u : BindingTable) (before after : List ℕ)
    → Dispatched o t before told u after
    → told ≡ refusal n
    → (u ≡ t) × (after ≡ before)

-- a refusal by this number is given exactly if a test holds
abbrev pub Exactly : Outcome Answer → ℕ → Bool → Type 0
Exactly o n test = (o ≡ refusal n → test ≡ true) × (test ≡ true → o ≡ refusal n)

-- so it is of a host, a binding table and a request: each number for its own reason, where no earlier number has one
pub record Demand1 (h : Host) (t : BindingTable) (a : Asked) : Type 0 where
  pub allowed : Allowed h a (answered h t a)
  pub kept : Kept (answered h t a) t
  pub one : Exactly (answered h t a) 1 (bad_tables h t)
  pub two : Exactly (answered h t a) 2 (not (bad_tables h t) && unknown a)
  pub three : Exactly (answered h t a) 3 (not (bad_tables h t) && not (unknown a) && malformed a)
  pub four : Exactly (answered h t a) 4 (not (bad_tables h t) && not (unknown a) && not (malformed a) && crowded h a)
  pub five : Exactly (answered h t a) 5 (not (bad_tables h t) && not (unknown a) && not (malformed a) && not (crowded h a) && too_long h a)

-- and of all
abbrev pub EachAnswered : Type 0
EachAnswered = (h : Host) (t : BindingTable) (a : Asked) → Demand1 h t a
