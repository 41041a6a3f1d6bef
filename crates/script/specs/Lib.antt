pub mod TextFields
pub mod Lines
pub mod Views
pub mod CallText
pub mod AnswerText
pub mod Writing
pub mod Drafts
