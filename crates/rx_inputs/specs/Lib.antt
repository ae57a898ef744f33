pub mod Hashed
pub mod Reads
