pub mod Class
pub mod Places
pub mod Sets
pub mod Meets
