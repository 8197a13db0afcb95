pub mod Order
pub mod Reading
pub mod Writing
