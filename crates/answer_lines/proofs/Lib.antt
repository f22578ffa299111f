pub mod Texts
pub mod Heard
pub mod Parsed
pub mod Ends
pub mod Closing
pub mod Found
pub mod Turns
pub mod OneOutcome
