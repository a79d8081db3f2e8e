pub mod Limits
pub mod Calendar
pub mod Civil
pub mod Word
pub mod Shared
pub mod Reading
pub mod Examples
pub mod Showing
