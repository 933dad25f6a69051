pub mod Polynomials
pub mod Declarations
pub mod Gates
pub mod Rules
pub mod Theorems
pub mod GatesLemmas
pub mod MonomialSumsLemmas
