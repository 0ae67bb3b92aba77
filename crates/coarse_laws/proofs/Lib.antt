pub mod CoarseLaw
pub mod HalfSteps
pub mod LiesSteps
pub mod ReadSteps
