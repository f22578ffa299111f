pub mod Held
pub mod Table
pub mod Answers
pub mod Places
