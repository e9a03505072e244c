pub mod Carrying
pub mod CoverLaws
pub mod ChoiceLaws
pub mod ProofLaws
pub mod NodeLaws
pub mod NodeParts
