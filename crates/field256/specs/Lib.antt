pub mod Gf256
pub mod Logarithms
pub mod Laws
pub mod Linear
