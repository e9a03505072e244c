pub mod ShownLemmas
pub mod TreeLemmas
pub mod StopLemmas
pub mod ChoiceLemmas
pub mod ProofLemmas
pub mod SettlingLemmas
pub mod VerdictLemmas
pub mod TextLemmas
