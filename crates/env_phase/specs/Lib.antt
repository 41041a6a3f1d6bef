pub mod Taking
pub mod Meeting
pub mod First
pub mod Cells
