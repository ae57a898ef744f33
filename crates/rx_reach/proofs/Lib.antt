mod EndLemmas
mod FollowLemmas
pub mod KnownLemmas
pub mod LeftLemmas
pub mod NextLemmas
pub mod OpenedLemmas
mod PassLemmas
mod ProgressLemmas
mod ReachLemmas
pub mod ScanLemmas
mod SeekLemmas
mod SetLemmas
pub mod SightLemmas
mod StartLemmas
mod TryLemmas
mod ViewSteps
mod VisitLemmas
mod VisitedLemmas
mod WayLemmas
