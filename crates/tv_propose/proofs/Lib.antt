mod FlatLemmas
pub mod WalkLemmas
pub mod TableLemmas
mod ConstantLemmas
