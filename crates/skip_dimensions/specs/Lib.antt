pub mod Degrees
pub mod Refusals
