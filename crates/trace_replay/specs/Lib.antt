-- The trace of a script, and what is written of it.
pub mod Traces
-- The lines of some first entries.
pub mod Lines
