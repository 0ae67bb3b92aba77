pub mod DrainSteps
pub mod KnownSteps
