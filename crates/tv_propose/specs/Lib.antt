pub mod Rests
pub mod Everywhere
pub mod Walks
pub mod GuardLists
pub mod DifferenceLists
pub mod Constants
pub mod BoundLists
pub mod Told
