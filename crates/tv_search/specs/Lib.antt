pub mod Runs
pub mod PathRows
pub mod Rounds
pub mod Marks
pub mod Tried
pub mod Answers
pub mod Laws
