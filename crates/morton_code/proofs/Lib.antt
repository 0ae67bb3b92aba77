pub mod OneCell
pub mod Steps
mod Vectors
