pub mod Core
pub mod Reading
pub mod Writing
