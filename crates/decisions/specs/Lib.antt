pub mod Received
pub mod Decisions
