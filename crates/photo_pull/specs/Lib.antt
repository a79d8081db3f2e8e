pub mod MayPull
pub mod OnHeld
pub mod Findings
pub mod StagedPulls
pub mod Examples
