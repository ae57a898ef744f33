pub mod PathsBehind
pub mod InOrder
pub mod OutputsBelow
pub mod DigestsSorted
