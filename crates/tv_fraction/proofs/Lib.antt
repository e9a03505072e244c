pub mod CrossProducts
pub mod Lowest
pub mod LowestTerms
mod NarrowLemmas
pub mod Products
