pub mod Terms
pub mod Built
pub mod Frames
pub mod Points
pub mod Wide
pub mod Blocks
