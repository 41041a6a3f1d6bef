pub mod Ahead
pub mod Leaves
pub mod Standing
pub mod Wires
pub mod Written
