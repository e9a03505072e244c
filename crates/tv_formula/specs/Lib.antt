pub mod Properties
pub mod Views
pub mod Normal
pub mod Forms
pub mod Limits
pub mod Parts
pub mod Formulas
