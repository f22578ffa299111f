pub mod Handled
pub mod Places
pub mod ByCluster
