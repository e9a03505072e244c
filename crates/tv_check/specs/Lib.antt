pub mod Settling
pub mod Roots
