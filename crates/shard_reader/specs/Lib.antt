pub mod Keeping
pub mod Readers
pub mod Reading
