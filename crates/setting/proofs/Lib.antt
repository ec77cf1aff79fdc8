pub mod Lowest
pub mod Forms
pub mod Blocks
pub mod Search
pub mod Vectors
pub mod Rows
pub mod Laws
