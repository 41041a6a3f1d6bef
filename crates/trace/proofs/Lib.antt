-- What is told, token by token.
mod Telling
-- What is written in one go, and run by run.
mod Runs
-- The environments after an entry.
mod Following
-- Those that an entry reaches.
mod Reaching
-- The line of an entry.
mod Lines
-- Reading the calls back.
mod ReadBack
-- The environments as they are.
mod Ports
mod Listed
-- A line stays as it is when entries are added.
mod Staying
