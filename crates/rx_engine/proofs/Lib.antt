mod AnswerLemmas
mod AttemptLemmas
mod Calm
pub mod Cases
mod ConcludeLemmas
mod CourseLemmas
mod Early
mod Entries
mod Failures
mod FinisherLemmas
pub mod HonestRuns
mod LostRuns
pub mod MadeLemmas
mod Mirrors
mod Moves
mod PendingLemmas
pub mod Quiet
pub mod RaceLemmas
mod ReplyMoves
mod TurnLemmas
mod Unpublished
