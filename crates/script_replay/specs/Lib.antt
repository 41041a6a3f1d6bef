pub mod Faults
pub mod Steps
pub mod Replays
pub mod Views
pub mod Status
