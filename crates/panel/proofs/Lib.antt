pub mod Accepted
pub mod Bounds
pub mod Editions
pub mod Examples
pub mod Modes
