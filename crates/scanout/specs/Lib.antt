pub mod State
pub mod Refusals
pub mod Calls
pub mod Core
pub mod Lists
pub mod FrameByFrame
