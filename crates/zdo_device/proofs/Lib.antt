pub mod Chains
pub mod Records
pub mod Clusters
