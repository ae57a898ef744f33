pub mod Digests
pub mod HashText
pub mod Paths
pub mod Results
pub mod SortedPaths
pub mod Texts
pub mod Told
pub mod Works
