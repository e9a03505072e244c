mod Membership
mod RankLemmas
mod Shown
mod Entering
mod Choosing
mod Offered
mod Regions
pub mod NodesSound
pub mod Following
pub mod Soundness
mod Claimed
mod Ending
pub mod ClaimLemmas
