mod ActionSteps
pub mod Cases
mod Changes
mod DecidedRaces
pub mod Following
mod Growing
mod OfferSteps
mod OpenRaces
mod Outcomes
mod Owners
pub mod RaceSteps
pub mod Reaching
mod RunLemmas
mod Staying
