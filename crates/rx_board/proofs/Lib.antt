pub mod LastPlaced
pub mod OnePublication
