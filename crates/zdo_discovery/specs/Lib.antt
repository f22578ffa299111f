pub mod Host
pub mod Discovery
pub mod Hosted
