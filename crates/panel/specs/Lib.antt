pub mod Geometry
pub mod Timing
pub mod Refusals
pub mod Counts
pub mod Editions
