pub mod Matching
pub mod Answers
