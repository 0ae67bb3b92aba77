pub mod AnswerSteps
mod BegunSteps
mod MomentSteps
mod UpdateSteps
pub mod UpdatingSteps
