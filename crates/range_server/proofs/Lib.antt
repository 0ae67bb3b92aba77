mod DigitSteps
mod NumberSteps
pub mod TextSteps
pub mod PlanSteps
mod PartSteps
pub mod SendSteps
pub mod ReplySteps
mod CauseSteps
pub mod ConnSteps
pub mod ServeSteps
mod OneReply
mod ServingSteps
mod EndSteps
