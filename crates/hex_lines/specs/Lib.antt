pub mod Hex
pub mod RequestLine
pub mod ReadBack
pub mod OneOutcome
