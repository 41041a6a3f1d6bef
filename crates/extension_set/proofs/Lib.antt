mod Lists
pub mod Lengths
pub mod PutInPlace
mod NumberedInPlace
mod EachExtension
