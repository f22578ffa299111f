pub mod Answers
pub mod Taken
pub mod OneDispatched
