pub mod SameReceipts
pub mod Events
pub mod Adding
pub mod Settles
pub mod Pulls
pub mod Ready
pub mod Households
pub mod Obsolete
