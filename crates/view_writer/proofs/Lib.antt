pub mod LoopSteps
pub mod PairSteps
pub mod PlanSteps
pub mod SmallSteps
