pub mod Bits
pub mod Common
pub mod Usable
pub mod Frames
