pub mod Asking
pub mod Found
pub mod Settling
pub mod Drawn
pub mod Lines
pub mod Taken
pub mod Made
pub mod Visits
