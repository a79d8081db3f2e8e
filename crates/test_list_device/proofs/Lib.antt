pub mod Calls
pub mod Mapped
pub mod Receipts
pub mod Sets
pub mod Sorting
