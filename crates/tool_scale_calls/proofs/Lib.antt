mod TableLemmas
pub mod Ready
