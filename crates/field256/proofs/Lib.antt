-- What the proofs of the field of 256 codes share.
pub mod Powers
pub mod Logarithms
