pub mod Widths
pub mod Tracing
pub mod Steps
