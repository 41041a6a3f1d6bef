-- The environments that an entry reaches.
pub mod Reaches
-- The environments after a history.
pub mod Sites
