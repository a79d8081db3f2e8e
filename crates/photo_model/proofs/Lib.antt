pub mod AllLemmas
mod WorkedExamples
