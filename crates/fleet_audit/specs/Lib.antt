pub mod Current
pub mod Stretch
pub mod Audited
