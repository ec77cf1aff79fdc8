-- What follows from the laws of a field, for the crates above, and what the proofs of the fields share.
pub mod Rings
pub mod Widths
pub mod Codes
pub mod Exhaustive
pub mod Tabulated
