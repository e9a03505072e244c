pub mod ListLemmas
mod RowLemmas
mod SeenLemmas
mod StartLemmas
mod SieveLemmas
pub mod StepLemmas
pub mod PickLemmas
pub mod PieceLemmas
pub mod PassLemmas
pub mod AskLemmas
pub mod RunLemmas
