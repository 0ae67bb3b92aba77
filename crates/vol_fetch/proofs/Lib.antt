pub mod FetchSteps
pub mod LineSteps
