pub mod Sums
pub mod Quotients
pub mod Polynomials
pub mod Interpolation
pub mod Points
pub mod Theorems
pub mod Multisets
