pub mod Headings
pub mod Calls
pub mod Memory
pub mod Outside
pub mod Stream
