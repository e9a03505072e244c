pub mod BelowLemmas
pub mod ShownLemmas
pub mod StepLemmas
pub mod NodeLemmas
pub mod KnownLemmas
pub mod RootLemmas
pub mod EndLemmas
