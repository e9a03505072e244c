pub mod PlaceLemmas
pub mod IndexLemmas
