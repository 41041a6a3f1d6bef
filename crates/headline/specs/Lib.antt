pub mod Headline
pub mod AnyOutput
pub mod Refused
