-- The flags of the node descriptor's fields, each by the number of its bit, and the stack revision. A flag is set in a field x
-- exactly if `bit_at` (the flag's number) x is true.
use Rattle.std.specs.Prelude.{ℕ, ◌/◌}
use Rattle.node_flags.specs.declared.FrequencyBandFlag.{FrequencyBandFlag}
use Rattle.node_flags.specs.declared.FrequencyBandFlag.TheVariants.{Low, Mid, High, EuropeanFSK}
use Rattle.node_flags.specs.declared.MacCapabilityFlag.{MacCapabilityFlag}
use Rattle.node_flags.specs.declared.MacCapabilityFlag.TheVariants.{AlternatePanCoordinator, DeviceType, PowerSource, ReceiverOnWhenIdle, SecurityCapability, AllocateAddress}
use Rattle.node_flags.specs.declared.ServerMaskFlag.{ServerMaskFlag}
use Rattle.node_flags.specs.declared.ServerMaskFlag.TheVariants.{PrimaryTrustCenter, BackupTrustCenter, PrimaryBindingTableCache, BackupBindingTableCache, PrimaryDiscoveryCache, BackupDiscoveryCache, NetworkManager}
use Rattle.node_flags.specs.declared.DescriptorCapabilityFlag.{DescriptorCapabilityFlag}
use Rattle.node_flags.specs.declared.DescriptorCapabilityFlag.TheVariants.{ExtendedActiveEndpontListAvailable, ExtendedSimpleDescriptorListAvailable}

-- the bit of a flag of the frequency band field (2.3.2.3.5)
abbrev pub frequency_band_flag_of : FrequencyBandFlag → ℕ
frequency_band_flag_of Low = 0
frequency_band_flag_of Mid = 2
frequency_band_flag_of High = 3
frequency_band_flag_of EuropeanFSK = 4

-- the bit of a flag of the MAC capability flags field (2.3.2.3.6)
abbrev pub mac_capability_flag_of : MacCapabilityFlag → ℕ
mac_capability_flag_of AlternatePanCoordinator = 0
mac_capability_flag_of DeviceType = 1
mac_capability_flag_of PowerSource = 2
mac_capability_flag_of ReceiverOnWhenIdle = 3
mac_capability_flag_of SecurityCapability = 6
mac_capability_flag_of AllocateAddress = 7

-- the bit of a flag of the server mask field (2.3.2.3.10)
abbrev pub server_mask_flag_of : ServerMaskFlag → ℕ
server_mask_flag_of PrimaryTrustCenter = 0
server_mask_flag_of BackupTrustCenter = 1
server_mask_flag_of PrimaryBindingTableCache = 2
server_mask_flag_of BackupBindingTableCache = 3
server_mask_flag_of PrimaryDiscoveryCache = 4
server_mask_flag_of BackupDiscoveryCache = 5
server_mask_flag_of NetworkManager = 6

-- the bit of a flag of the descriptor capability field
abbrev pub descriptor_capability_flag_of : DescriptorCapabilityFlag → ℕ
descriptor_capability_flag_of ExtendedActiveEndpontListAvailable = 0
descriptor_capability_flag_of ExtendedSimpleDescriptorListAvailable = 1

-- the stack revision in the upper seven bits of a server mask (2.3.2.3.10)
abbrev pub stack_revision : ℕ → ℕ
stack_revision mask = mask / 512
