-- The history before an entry.
pub mod Earlier
-- The numbers of environments, and a loop over them.
pub mod Loops
-- What an entry makes of each environment.
pub mod Entered
