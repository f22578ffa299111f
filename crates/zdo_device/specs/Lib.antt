pub mod Tables
pub mod Checked
