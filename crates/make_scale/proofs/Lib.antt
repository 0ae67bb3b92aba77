pub mod AnswerSteps
pub mod StoredSteps
