pub mod Written
mod Composing
mod LineEnds
mod LongLines
mod Feeding
mod ReadingOn
mod AddedEntries
