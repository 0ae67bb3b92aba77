mod KnownChunks
pub mod Ascending
pub mod CodeSteps
pub mod EncodedSteps
pub mod FoundAgain
pub mod Headline
pub mod JudgeLaw
pub mod Law
pub mod Next
pub mod PutShards
pub mod SegSteps
pub mod ShardLaw
pub mod ShardSteps
pub mod Spots
pub mod Sums
pub mod WrittenSteps
