pub mod Ledgers
pub mod Stakes
pub mod Counting
