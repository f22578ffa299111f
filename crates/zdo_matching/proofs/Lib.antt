pub mod Shared
pub mod Matches
pub mod Filled
pub mod Found
