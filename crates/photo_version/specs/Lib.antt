pub mod Author
pub mod Version
pub mod Vector
pub mod Shared
pub mod Examples
pub mod Words
pub mod Showing
