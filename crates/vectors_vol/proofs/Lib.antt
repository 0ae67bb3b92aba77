pub mod GeneratedSteps
mod KnownLists
pub mod PlaceSteps
pub mod PlainSteps
pub mod ReadSteps
pub mod SizeSteps
pub mod ValueSteps
