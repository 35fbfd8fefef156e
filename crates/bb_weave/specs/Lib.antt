pub mod Woven
pub mod Filling
pub mod Room
