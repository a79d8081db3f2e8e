mod WorkedExamples
mod Counted
mod Joined
pub mod Listing
mod OneAnswer
