pub mod Views
pub mod Names
pub mod Hosts
pub mod HostNames
pub mod Pages
pub mod Codings
pub mod Guarding
pub mod Refusals
