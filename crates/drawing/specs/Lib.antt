pub mod Colour
pub mod Drawing
pub mod Core
