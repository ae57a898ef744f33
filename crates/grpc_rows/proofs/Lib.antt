pub mod BytesLemmas
pub mod RecordedLemmas
