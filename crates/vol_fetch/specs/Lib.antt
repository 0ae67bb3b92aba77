pub mod Words
pub mod Fetches
