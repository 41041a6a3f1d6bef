-- The trace, line by line.
mod Lines
-- The trace of a script.
mod Scripts
