mod OfferLemmas
mod SumLemmas
mod StepLemmas
mod RunLemmas
mod TraceLemmas
