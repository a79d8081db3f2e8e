pub mod Ordered
pub mod Entry
pub mod Device
pub mod Telling
pub mod Refiltered
pub mod Conflicts
pub mod Pull
pub mod Examples
