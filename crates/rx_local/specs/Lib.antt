pub mod Limits
pub mod Local
pub mod Stage
