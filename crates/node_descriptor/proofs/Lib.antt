pub mod Bits
pub mod Packed
pub mod Defaults
