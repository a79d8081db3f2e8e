pub mod Printed
pub mod Refused
pub mod Live
