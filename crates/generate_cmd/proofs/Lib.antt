pub mod DrawnSteps
pub mod EndSteps
pub mod GenerateSteps
