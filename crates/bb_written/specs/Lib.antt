pub mod Cells
pub mod Written
pub mod Restricted
pub mod Falling
pub mod Trace
pub mod Modes
