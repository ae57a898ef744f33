pub mod Board
pub mod Journal
pub mod Placing
