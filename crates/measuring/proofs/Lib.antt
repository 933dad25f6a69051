pub mod Repetitions
pub mod Turns
