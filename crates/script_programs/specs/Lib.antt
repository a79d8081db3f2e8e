pub mod Helps
pub mod Statuses
