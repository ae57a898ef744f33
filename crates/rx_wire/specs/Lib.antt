pub mod Cursor
pub mod Fields
pub mod Found
pub mod Integers
pub mod Out
pub mod Values
pub mod Varints
