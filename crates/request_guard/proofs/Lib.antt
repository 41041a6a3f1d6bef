mod Passed
mod RareFields
