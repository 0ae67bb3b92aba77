pub mod Gathered
pub mod KeptCells
pub mod Touched
