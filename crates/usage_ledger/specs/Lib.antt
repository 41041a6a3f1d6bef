pub mod Counts
pub mod Keeping
pub mod Ledgers
pub mod Tallies
pub mod Joining
