pub mod Places
pub mod Telling
pub mod Stepping
pub mod Going
pub mod Composed
pub mod Sums
pub mod ShownLemmas
pub mod Soundness
pub mod Refuting
pub mod Wholes
mod RowLemmas
