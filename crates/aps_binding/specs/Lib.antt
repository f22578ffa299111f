pub mod Entry
pub mod Same
