pub mod ClaimLemmas
pub mod NodeLemmas
