pub mod Settled
pub mod WideLemmas
pub mod JoinLemmas
pub mod FormLemmas
pub mod WalkLemmas
