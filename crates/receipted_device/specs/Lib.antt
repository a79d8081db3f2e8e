pub mod Receipts
pub mod Shown
pub mod Meeting
pub mod Settling
pub mod Laws
pub mod Examples
pub mod Coding
