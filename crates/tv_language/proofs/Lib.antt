pub mod FrontLemmas
pub mod GapLemmas
pub mod NumberLemmas
pub mod ScanLemmas
pub mod OneList
pub mod TokenCounts
pub mod DrawLemmas
pub mod PlaceLemmas
pub mod PlaceOfWords
mod RecentLemmas
