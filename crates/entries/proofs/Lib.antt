pub mod Examples
pub mod Fronts
pub mod ReadBackLaws
