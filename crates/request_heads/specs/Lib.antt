pub mod Asks
pub mod Heads
pub mod Answers
pub mod Fields
pub mod Words
