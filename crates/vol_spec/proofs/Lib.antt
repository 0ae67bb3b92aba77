mod KnownShards
pub mod CutSteps
pub mod Firsts
pub mod PlacedSteps
pub mod Plain
pub mod PutSteps
pub mod RawSteps
pub mod SameScale
pub mod Told
