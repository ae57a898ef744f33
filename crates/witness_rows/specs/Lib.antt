pub mod Benches
pub mod Outcomes
pub mod Shown
pub mod Single
pub mod Traces
pub mod Trivial
