pub mod CoverValues
pub mod ChoiceValues
pub mod NodeValues
pub mod CertificateValues
pub mod Spelling
