pub mod NodeDescriptor
pub mod Bits
pub mod Defaults
