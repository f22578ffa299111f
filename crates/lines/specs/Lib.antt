pub mod Lines
pub mod Splitter
pub mod Chunks
pub mod OneOutcome
