pub mod WalkLemmas
pub mod SettlingLemmas
pub mod ShownLemmas
