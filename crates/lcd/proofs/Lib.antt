pub mod NoMixture
pub mod Screens
