pub mod Fronts
pub mod ToldRows
pub mod ToldCovers
pub mod ToldProofs
pub mod ToldNodes
pub mod ToldAmounts
pub mod ToldCertificates
mod NodeLines
pub mod KindLines
pub mod Again
