mod Parsed
mod Each
mod MembersLemmas
mod Whole
mod Again
pub mod PlainText
mod TextAgain
pub mod SetupAgain
mod BodyTexts
mod ObjectParts
mod FieldValues
mod JsonPartsLemmas
mod FilledFields
