pub mod AskSteps
pub mod HeadSteps
pub mod WaitSteps
pub mod FieldSteps
pub mod CountSteps
