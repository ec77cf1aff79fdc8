pub mod Pieces
pub mod Written
pub mod Overruns
