mod Behind
mod Grew
mod LinesBehind
mod Longer
mod Others
mod Played
mod Texts
pub mod Readable
