mod Lists
mod Stretches
mod Shown
