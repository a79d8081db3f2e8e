pub mod Limits
pub mod Counting
pub mod Jobs
pub mod Batch
pub mod Dealing
pub mod Progress
