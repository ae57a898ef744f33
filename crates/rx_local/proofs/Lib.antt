pub mod Ends
mod HonestRuns
mod Lacking
pub mod LimitLemmas
pub mod Staging
