pub mod Numbered
pub mod Lowest
mod Bits
mod First
mod Noted
