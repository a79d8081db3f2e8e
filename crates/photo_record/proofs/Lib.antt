pub mod SetLemmas
pub mod FormLemmas
pub mod DayLemmas
pub mod DateLemmas
pub mod ReadLemmas
mod Shown
