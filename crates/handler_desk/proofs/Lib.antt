mod Claiming
mod Waiting
mod Seating
