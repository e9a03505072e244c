pub mod NormalLemmas
