pub mod Crossing
pub mod ExchangedLemmas
pub mod ScriptLemmas
