pub mod WordSteps
mod ScanSteps
mod WindowSteps
mod OpenSteps
mod FoundSteps
mod KeepSteps
mod ChunkSteps
mod AgainSteps
mod PastSteps
