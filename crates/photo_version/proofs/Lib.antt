pub mod AuthorLemmas
pub mod VectorLemmas
pub mod JoinLemmas
pub mod SearchLemmas
