pub mod Judgement
pub mod Window
