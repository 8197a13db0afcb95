pub mod Greys
pub mod Drawing
pub mod OverFrames
pub mod Core
