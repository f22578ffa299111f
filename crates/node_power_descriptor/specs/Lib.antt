pub mod PowerDescriptor
pub mod Bits
