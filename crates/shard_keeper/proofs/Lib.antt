mod AddSteps
pub mod IndexSteps
pub mod KeepSteps
