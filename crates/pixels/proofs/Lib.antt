pub mod Examples
pub mod PixelOrder
pub mod StoredPixels
