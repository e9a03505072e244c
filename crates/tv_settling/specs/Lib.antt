pub mod Closed
pub mod Refusals
pub mod Below
pub mod Nodes
pub mod Ends
