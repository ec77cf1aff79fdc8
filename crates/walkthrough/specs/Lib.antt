pub mod Taken
pub mod Blocks
