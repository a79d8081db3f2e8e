pub mod Texts
pub mod Printable
pub mod Parts
pub mod Laws
pub mod Examples
