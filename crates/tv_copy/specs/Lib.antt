pub mod SameProofs
pub mod SameNodes
pub mod SameRegions
