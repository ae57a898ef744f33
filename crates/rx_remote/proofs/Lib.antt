pub mod CallEnds
mod CallTurns
pub mod CleanEnds
mod CountLemmas
pub mod Fetching
mod FineEnds
mod FirstLemmas
mod HonestTurns
mod LeftAsks
mod LoopLemmas
pub mod MeasureLemmas
mod OnceLemmas
mod PlainEnds
mod ReadLemmas
mod RightEnds
mod RunEnds
mod RunLemmas
pub mod SoundEnds
mod StepLemmas
pub mod StopEnds
mod StopTold
mod StoreLemmas
