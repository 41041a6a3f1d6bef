pub mod Asked
pub mod States
pub mod Piped
pub mod Seats
pub mod Claims
pub mod Desks
