pub mod Sharing
pub mod Crosses
pub mod Memory
pub mod BlockLayout
pub mod RunLemmas
pub mod EndLemmas
pub mod BlockLemmas
