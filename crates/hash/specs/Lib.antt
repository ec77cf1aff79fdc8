pub mod Bytes
pub mod Fold
pub mod Schedule
pub mod Sha256
pub mod Digests
pub mod Columns
