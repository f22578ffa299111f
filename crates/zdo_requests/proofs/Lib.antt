pub mod Parsed
pub mod Named
