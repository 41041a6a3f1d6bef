pub mod Numbered
mod Leaves
mod Totals
pub mod History
