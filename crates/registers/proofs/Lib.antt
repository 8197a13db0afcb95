pub mod Examples
pub mod Lending
pub mod Tiling
pub mod Refusals
pub mod Order
