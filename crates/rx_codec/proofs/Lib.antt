pub mod ContentLaws
pub mod DecodeLaws
pub mod DigestLaws
pub mod EachLemmas
pub mod FieldRead
pub mod PartLaws
pub mod ReadLemmas
pub mod SliceLemmas
