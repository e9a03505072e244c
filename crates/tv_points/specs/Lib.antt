pub mod PointRows
pub mod States
pub mod StatePieces
pub mod Lines
pub mod Entering
pub mod Taking
pub mod RunLines
pub mod Nodes
