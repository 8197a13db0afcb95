pub mod Sizes
pub mod Counts
