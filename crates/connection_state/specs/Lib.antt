pub mod Limits
pub mod Pulses
