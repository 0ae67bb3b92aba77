pub mod SumSteps
pub mod WeighSteps
