pub mod FindingLaw
pub mod Law
pub mod PutAgain
pub mod StoredViews
pub mod ViewLaws
