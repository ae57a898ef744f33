pub mod AskLemmas
pub mod ConnectionLemmas
pub mod HeardLemmas
