pub mod Digits
pub mod Put
pub mod Request
pub mod Line
pub mod ReadBack
pub mod OneOutcome
