mod Cuts
mod Kept
