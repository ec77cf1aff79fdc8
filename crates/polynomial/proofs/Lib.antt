pub mod Evaluation
pub mod Roots
pub mod Newton
pub mod Risen
pub mod Lagrange
pub mod Bases
