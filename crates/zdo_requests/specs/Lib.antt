pub mod Clusters
pub mod Requests
