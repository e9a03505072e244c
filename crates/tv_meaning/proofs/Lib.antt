pub mod Negation
pub mod RunLemmas
pub mod SameSteps
pub mod LocalNegation
