mod Fates
mod Holding
