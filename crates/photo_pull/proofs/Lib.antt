pub mod Members
mod Along
mod Passing
mod Told
mod Shown
pub mod Wanted
mod Asked
mod Halves
pub mod WorkedExamples
