pub mod Values
pub mod Declarations
