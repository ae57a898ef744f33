pub mod LockLemmas
pub mod LookLemmas
pub mod SlipLemmas
pub mod SoundLemmas
pub mod SoundOffers
pub mod SoundStarts
pub mod StepLemmas
pub mod ToldLemmas
