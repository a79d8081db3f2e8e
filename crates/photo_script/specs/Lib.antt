pub mod Reports
pub mod Tallies
pub mod Laws
pub mod Examples
