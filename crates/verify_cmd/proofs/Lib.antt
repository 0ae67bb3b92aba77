pub mod AskedSteps
pub mod JudgeSteps
pub mod PartSteps
pub mod ServeSteps
pub mod VerifySteps
pub mod UnreadSteps
pub mod ViewSteps
