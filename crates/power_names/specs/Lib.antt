pub mod Names
pub mod Union
