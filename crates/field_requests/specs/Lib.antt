pub mod Requests
pub mod Calculations
