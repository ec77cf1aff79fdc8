pub mod Code
pub mod Shaped
pub mod Decoding
pub mod Commitment
pub mod Choice
pub mod Pieced
