pub mod Graph
pub mod Arcs
pub mod Marks
pub mod Stacks
pub mod Invariant
pub mod PathSearch
