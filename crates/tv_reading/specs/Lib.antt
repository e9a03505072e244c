pub mod Marks
pub mod SumGrammar
pub mod ConditionGrammar
pub mod Refusals
pub mod Views
pub mod Answers
pub mod Texts
pub mod Readings
