pub mod Turns
pub mod Registering
pub mod Names
