pub mod Agreement
pub mod FarmResults
pub mod Outcomes
pub mod Readings
pub mod ResultOutputs
pub mod Results
pub mod Slots
