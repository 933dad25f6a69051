pub mod Plans
pub mod Texts
