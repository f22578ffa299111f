pub mod Holds
pub mod Good
pub mod Places
pub mod Placed
pub mod Shift
pub mod Search
pub mod Links
