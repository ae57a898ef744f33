pub mod Clients
pub mod Farms
pub mod Looks
pub mod Names
