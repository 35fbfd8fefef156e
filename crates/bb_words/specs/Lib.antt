pub mod Options
pub mod Commands
pub mod Calls
pub mod Parts
