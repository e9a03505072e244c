pub mod Inductive
pub mod Offered
pub mod Laws
