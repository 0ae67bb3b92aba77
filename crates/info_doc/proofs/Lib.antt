mod JsonSteps
mod Judging
mod MoreSteps
pub mod Laws
mod Parts
mod Saturated
mod ShapeSteps
mod Reading
pub mod SameSharding
mod TreeSteps
