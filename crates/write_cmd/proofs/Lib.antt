pub mod EndSteps
pub mod MomentSteps
pub mod PlanSteps
pub mod StreamSteps
pub mod ViewSteps
pub mod WriteSteps
