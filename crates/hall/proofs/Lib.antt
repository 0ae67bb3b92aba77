pub mod HallSteps
pub mod Fronts
pub mod Sums
pub mod PlaceSteps
pub mod TurnSteps
pub mod EndSteps
