mod Changes
mod Fullest
mod Standings
