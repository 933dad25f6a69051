pub mod Arguments
pub mod Checksum
pub mod Repetitions
pub mod Splitmix
