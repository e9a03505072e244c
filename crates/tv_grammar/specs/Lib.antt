pub mod Reads
pub mod Langs
pub mod Exact
pub mod Faults
pub mod Longest
