pub mod Coprime
pub mod Fraction
pub mod Narrow
