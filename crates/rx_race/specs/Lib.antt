pub mod Locked
pub mod Looking
pub mod Publishing
pub mod Races
pub mod Slips
pub mod Sound
pub mod Standings
