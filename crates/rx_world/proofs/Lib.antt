pub mod Among
pub mod AnswerLemmas
pub mod FilesUnder
pub mod PlacedBy
