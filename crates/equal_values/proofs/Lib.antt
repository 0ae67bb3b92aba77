mod Counts
pub mod Firsts
pub mod Homes
pub mod Indexed
mod Orderly
pub mod Ranges
mod Sites
mod Sorted
mod Walks
mod Groupwise
