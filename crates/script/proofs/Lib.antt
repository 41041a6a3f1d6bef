mod TextFieldLemmas
mod FieldLemmas
mod WritingLemmas
mod WithinLemmas
mod NumberLemmas
mod SplitLemmas
mod Fronts
mod Coded
pub mod ReadAgain
pub mod WordBounds
pub mod LineBounds
pub mod StableLines
pub mod FormsAgree
