pub mod Contents
pub mod Decoding
pub mod Digests
pub mod FieldBytes
pub mod Parts
pub mod Seen
pub mod Written
