pub mod Farms
pub mod Stores
