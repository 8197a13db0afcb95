pub mod Storing
pub mod CutLoads
pub mod Examples
