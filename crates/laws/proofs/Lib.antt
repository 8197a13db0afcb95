pub mod CaseLaws
pub mod BitFieldLaws
pub mod AnswerLaws
pub mod PartLaws
