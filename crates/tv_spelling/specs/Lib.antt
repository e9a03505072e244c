pub mod Named
pub mod Sums
pub mod Conditions
pub mod ReadAgain
pub mod Programs
