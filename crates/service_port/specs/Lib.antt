pub mod Ports
pub mod Handled
-- How the code keeps a list while it is read. Only private contracts and invariants use these words.
pub mod Views
