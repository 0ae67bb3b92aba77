pub mod AnswerSteps
pub mod AskSteps
pub mod CutoutSteps
pub mod UnreadSteps
