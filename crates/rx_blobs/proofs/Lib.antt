mod FetchLemmas
mod HashLemmas
mod UploadGroups
mod UploadLemmas
pub mod UploadLists
mod UploadReads
