pub mod CommandLines
pub mod Numbers
pub mod Workers
pub mod WordExamples
