pub mod ProgramMarks
pub mod ProgramGrammar
pub mod Places
pub mod FirstFaults
pub mod Readers
pub mod Laws
