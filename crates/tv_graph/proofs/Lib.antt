pub mod StateLemmas
pub mod StackLemmas
pub mod ReachLemmas
pub mod SearchLemmas
pub mod Numbering
