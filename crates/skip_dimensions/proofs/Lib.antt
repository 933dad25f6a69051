pub mod Degrees
pub mod Widths
