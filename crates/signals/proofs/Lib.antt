pub mod Positions
pub mod ReadingOrder
pub mod Pins
