pub mod ColumnSteps
pub mod ReadBack
pub mod Steps
mod Vectors
