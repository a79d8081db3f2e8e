pub mod Limits
pub mod Matching
pub mod Alternatives
pub mod Covers
pub mod Coding
pub mod Laws
pub mod Examples
pub mod Filters
