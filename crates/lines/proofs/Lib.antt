pub mod Grown
pub mod Taken
pub mod Chunks
pub mod OneOutcome
