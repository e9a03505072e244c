pub mod Scopes
pub mod Derived
pub mod Regions
pub mod Faults
pub mod Questions
pub mod CaseQuestions
pub mod Laws
