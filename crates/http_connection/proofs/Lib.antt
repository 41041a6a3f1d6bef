mod Inner
mod Left
mod Moved
