pub mod ActionBlobs
pub mod ActionKeys
pub mod Commands
pub mod OutputPaths
pub mod Pairs
