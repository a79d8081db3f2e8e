mod Logged
mod Ranges
pub mod Shown
pub mod KnownLemmas
pub mod About
pub mod Changed
pub mod Runs
pub mod InOrder
pub mod NumberOrder
pub mod ReadyRuns
pub mod Between
pub mod Settled
pub mod FewMoved
pub mod Issued
pub mod MadeAlone
pub mod InAnyOrder
