pub mod Status
pub mod Ending
pub mod Faults
pub mod Explaining
pub mod Courses
