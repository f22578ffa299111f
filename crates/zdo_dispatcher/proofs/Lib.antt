pub mod OneDispatched
pub mod Told
pub mod Links
pub mod Requests
pub mod Taken
