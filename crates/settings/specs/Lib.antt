pub mod Stores
pub mod CutLoads
