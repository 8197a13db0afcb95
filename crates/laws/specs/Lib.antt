-- Definitions that promises cite, which a reader must believe, and their laws apart, which a reader need not believe.
pub mod Answers
pub mod BitFields
pub mod Booleans
pub mod Cases
pub mod Storing
pub mod BitFieldLaws
pub mod BooleanLaws
pub mod CaseLaws
pub mod PackingLaws
pub mod ProductLaws
pub mod ShiftLaws
pub mod StoringLaws
pub mod TableLaws
pub mod WalkLaws
