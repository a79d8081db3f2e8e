pub mod Replica
pub mod Household
pub mod Meeting
pub mod Laws
pub mod Examples
