pub mod Batches
pub mod Faults
pub mod Fetches
pub mod Uploads
