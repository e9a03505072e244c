pub mod Ranked
pub mod Numbers
pub mod RankedEnds
pub mod RoundLemmas
pub mod KnownHolds
pub mod Programs
pub mod SizeLemmas
pub mod Recurring
