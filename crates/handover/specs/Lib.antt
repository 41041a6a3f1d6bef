pub mod Counters
pub mod Stages
pub mod Order
pub mod Runs
pub mod Presence
pub mod Heads
pub mod Posted
pub mod Pipes
