pub mod Pieces
pub mod Numbers
pub mod Heads
pub mod Lines
pub mod Writing
