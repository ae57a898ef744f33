pub mod DirectoryLemmas
pub mod FrontLemmas
pub mod LineLemmas
pub mod NumberLemmas
pub mod WayLemmas
