pub mod Checking
pub mod Settling
pub mod Verdicts
pub mod Texts
