-- The statuses of replies (2.4.5), by the Rust's names without their STATUS_.
use Rattle.std.specs.Prelude.{ℕ}

abbrev pub SUCCESS : ℕ
SUCCESS = 0x00

abbrev pub INV_REQUESTTYPE : ℕ
INV_REQUESTTYPE = 0x80

abbrev pub DEVICE_NOT_FOUND : ℕ
DEVICE_NOT_FOUND = 0x81

abbrev pub INVALID_EP : ℕ
INVALID_EP = 0x82

abbrev pub NOT_ACTIVE : ℕ
NOT_ACTIVE = 0x83

abbrev pub NOT_SUPPORTED : ℕ
NOT_SUPPORTED = 0x84

abbrev pub NO_ENTRY : ℕ
NO_ENTRY = 0x88

abbrev pub NOT_PERMITTED : ℕ
NOT_PERMITTED = 0x8b

abbrev pub TABLE_FULL : ℕ
TABLE_FULL = 0x8c

abbrev pub NOT_AUTHORIZED : ℕ
NOT_AUTHORIZED = 0x8d
