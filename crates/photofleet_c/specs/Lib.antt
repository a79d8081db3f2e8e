pub mod Placed
pub mod Lines
pub mod Statuses
pub mod Refused
pub mod Sessions
pub mod Kept
