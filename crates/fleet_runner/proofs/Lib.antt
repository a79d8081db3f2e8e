pub mod Known
pub mod Sources
pub mod Texts
pub mod Streams
pub mod Outputs
pub mod WorkedExamples
pub mod PlanLines
pub mod Replayed
