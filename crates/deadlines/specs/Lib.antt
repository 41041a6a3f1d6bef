pub mod Due
pub mod Meets
pub mod Tree
