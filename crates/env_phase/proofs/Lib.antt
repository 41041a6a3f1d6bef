-- The table as the code reads it.
mod Cells
-- The first stage of each call, as the code makes it.
mod Turns
mod Welcome
-- What comes after each entry.
mod NoneServed
-- How many answers and extensions there are.
mod Room
pub mod Extent
-- The stand after every history.
pub mod Homes
mod Waiting
pub mod Meets
