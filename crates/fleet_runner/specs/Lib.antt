pub mod Outputs
pub mod PlanTexts
pub mod OrderStreams
pub mod Laws
pub mod Examples
