pub mod Session
pub mod Turns
pub mod OneOutcome
