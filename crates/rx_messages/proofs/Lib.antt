pub mod NameLaws
pub mod OneForm
pub mod TreeLaws
