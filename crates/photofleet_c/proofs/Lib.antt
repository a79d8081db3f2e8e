mod LineLemmas
mod Loosed
mod Handles
