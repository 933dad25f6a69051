pub mod Lines
pub mod Buffers
pub mod Sources
pub mod Steps
