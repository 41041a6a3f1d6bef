pub mod Choices
pub mod Looks
pub mod Places
