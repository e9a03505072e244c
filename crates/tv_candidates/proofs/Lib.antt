pub mod Parts
pub mod OnRuns
