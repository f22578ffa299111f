-- The numbers that requests are told apart by (2.4.3), under the Rust's names, with _NUMBER behind each: first the clusters of the ten requests.
use Rattle.std.specs.Prelude.{ℕ, ◌+◌}

abbrev pub NWK_ADDR_REQ_NUMBER : ℕ
NWK_ADDR_REQ_NUMBER = 0x0000

abbrev pub IEEE_ADDR_REQ_NUMBER : ℕ
IEEE_ADDR_REQ_NUMBER = 0x0001

abbrev pub NODE_DESC_REQ_NUMBER : ℕ
NODE_DESC_REQ_NUMBER = 0x0002

abbrev pub POWER_DESC_REQ_NUMBER : ℕ
POWER_DESC_REQ_NUMBER = 0x0003

abbrev pub SIMPLE_DESC_REQ_NUMBER : ℕ
SIMPLE_DESC_REQ_NUMBER = 0x0004

abbrev pub ACTIVE_EP_REQ_NUMBER : ℕ
ACTIVE_EP_REQ_NUMBER = 0x0005

abbrev pub MATCH_DESC_REQ_NUMBER : ℕ
MATCH_DESC_REQ_NUMBER = 0x0006

abbrev pub BIND_REQ_NUMBER : ℕ
BIND_REQ_NUMBER = 0x0021

abbrev pub UNBIND_REQ_NUMBER : ℕ
UNBIND_REQ_NUMBER = 0x0022

abbrev pub MGMT_LEAVE_REQ_NUMBER : ℕ
MGMT_LEAVE_REQ_NUMBER = 0x0034

-- the type of an address request that asks for the device alone (2.4.3.1.1)
abbrev pub ADDR_REQUEST_SINGLE_NUMBER : ℕ
ADDR_REQUEST_SINGLE_NUMBER = 0x00

-- and of one that asks for its associated devices too
abbrev pub ADDR_REQUEST_EXTENDED_NUMBER : ℕ
ADDR_REQUEST_EXTENDED_NUMBER = 0x01

-- the cluster of the reply to a request (2.4.4; document 01, "Binding and dispatch")
abbrev pub reply_cluster : ℕ → ℕ
reply_cluster cluster = cluster + 0x8000
