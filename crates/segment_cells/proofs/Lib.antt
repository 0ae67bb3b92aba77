pub mod CellSteps
pub mod OwnCells
pub mod SegSteps
pub mod ShapeSteps
