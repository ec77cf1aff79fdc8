pub mod Tried
pub mod Encoded
pub mod Sizes
pub mod Decoded
pub mod Selected
pub mod Rows
pub mod Undone
pub mod Committed
