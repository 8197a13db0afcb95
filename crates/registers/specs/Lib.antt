pub mod Layouts
pub mod Fields
pub mod Loading
pub mod Refusals
