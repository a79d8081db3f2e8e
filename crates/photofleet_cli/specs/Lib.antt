pub mod CommandLine
pub mod Asked
pub mod Doing
pub mod Examples
