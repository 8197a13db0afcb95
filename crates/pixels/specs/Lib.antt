pub mod Format
pub mod Order
pub mod Colours
pub mod Pixel
