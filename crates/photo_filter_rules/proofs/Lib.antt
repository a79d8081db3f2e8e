pub mod Bools
pub mod Sets
pub mod Spans
pub mod Fitting
pub mod Covering
pub mod Pairing
pub mod Found
pub mod Worked
