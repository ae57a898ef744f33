mod Genuine
mod Listing
mod Nodes
pub mod Prefixes
pub mod Reading
mod Spots
