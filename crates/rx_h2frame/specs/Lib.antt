pub mod Flags
pub mod Kind
pub mod Head
pub mod HeadView
pub mod Frame
pub mod Seen
pub mod Write
