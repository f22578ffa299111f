-- The Rust's reasons, each as its status (2.4.5).
use Rattle.std.specs.Prelude.{ℕ}
use Rattle.zigbee_types.specs.Statuses.{SUCCESS, INV_REQUESTTYPE, DEVICE_NOT_FOUND, INVALID_EP, NOT_SUPPORTED, NO_ENTRY, NOT_PERMITTED, TABLE_FULL, NOT_AUTHORIZED}
use Rattle.zdo_replies.specs.declared.descriptor.BindStatus.{BindStatus}
use Rattle.zdo_replies.specs.declared.descriptor.BindStatus.TheVariants as bind
use Rattle.zdo_replies.specs.declared.descriptor.DiscoveryError.{DiscoveryError}
use Rattle.zdo_replies.specs.declared.descriptor.DiscoveryError.TheVariants as error
use Rattle.zdo_replies.specs.declared.management.NlmeLeaveStatus.{NlmeLeaveStatus}
use Rattle.zdo_replies.specs.declared.management.NlmeLeaveStatus.TheVariants as leave

-- of a bind or an unbind (2.4.4.3.2, 2.4.4.3.3)
abbrev pub bind_code : BindStatus → ℕ
bind_code bind.Success = SUCCESS
bind_code bind.InvalidEndpoint = INVALID_EP
bind_code bind.TableFull = TABLE_FULL
bind_code bind.NoEntry = NO_ENTRY
bind_code bind.NotSupported = NOT_SUPPORTED

-- of a discovery request that cannot be answered with data (2.4.4.2)
abbrev pub discovery_code : DiscoveryError → ℕ
discovery_code error.InvalidRequestType = INV_REQUESTTYPE
discovery_code error.DeviceNotFound = DEVICE_NOT_FOUND

-- `leave_status` (document 01, "Replies"; 2.4.5, 2.4.4.4.5)
abbrev pub leave_status : NlmeLeaveStatus → ℕ
leave_status leave.Success = SUCCESS
leave_status leave.InvalidRequest = INV_REQUESTTYPE
leave_status leave.UnknownDevice = DEVICE_NOT_FOUND
leave_status leave.MacError = NOT_PERMITTED
leave_status leave.NotAuthorized = NOT_AUTHORIZED
