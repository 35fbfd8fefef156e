pub mod Bits
pub mod Compactors
pub mod Evaluation
