mod GatherSteps
pub mod MetSteps
pub mod MinishardSteps
mod OwnSteps
pub mod ShardSteps
pub mod TouchedSteps
