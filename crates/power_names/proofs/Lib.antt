pub mod Gathered
pub mod Union
