pub mod Repeats
pub mod Counting
pub mod Bounds
mod WordsRead
mod Parts
mod Arns
pub mod Printable
pub mod Pieces
