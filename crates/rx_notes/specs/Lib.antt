pub mod Relay
pub mod Works
