pub mod Parts
pub mod Pixel
pub mod Clock
pub mod Core
