pub mod Entries
pub mod Sets
pub mod Shown
pub mod News
pub mod Replicas
