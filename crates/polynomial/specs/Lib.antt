pub mod Polynomial
pub mod Interpolation
