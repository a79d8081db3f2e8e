pub mod Lines
pub mod Kinds
pub mod Answers
pub mod Input
