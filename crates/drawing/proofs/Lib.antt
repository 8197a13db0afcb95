pub mod ColourLines
pub mod Formats
pub mod Judged
pub mod Numbers
pub mod Parts
pub mod Rows
pub mod Shown
pub mod Touched
