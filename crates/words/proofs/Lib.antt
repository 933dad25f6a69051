pub mod Fronts
pub mod Pieces
mod Words
mod Numerals
mod Digits
