pub mod Texts
pub mod Basis
