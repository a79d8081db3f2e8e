pub mod Histories
mod Entries
mod WorkedExamples
mod Joining
mod Unstaged
mod Named
mod AlongScripts
mod Sorted
mod Shown
mod Holders
mod WorkedQuestions
pub mod Due
