pub mod Values
pub mod Sequence
pub mod Lanes
pub mod Transposed
