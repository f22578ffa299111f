pub mod Active
pub mod Described
