pub mod Sums
pub mod FoundRuns
pub mod Making
