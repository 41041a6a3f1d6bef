pub mod Usages
pub mod Numbers
pub mod Pools
pub mod Totals
pub mod Meets
