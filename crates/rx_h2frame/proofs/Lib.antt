pub mod NextLemmas
pub mod SoundLemmas
pub mod SeenLemmas
pub mod WriteLemmas
