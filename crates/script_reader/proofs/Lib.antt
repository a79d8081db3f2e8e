mod Accepted
mod Arguments
mod WorkedExamples
mod Changing
mod Commands
mod Cuts
mod FilterTexts
mod Gathered
mod HasField
pub mod Grown
mod Knowing
mod MadeBy
mod Moving
mod Numbers
mod Places
mod Returns
mod SharingLemmas
mod Spaces
mod Taken
mod Taking
mod Trailing
mod Turns
pub mod Whole
