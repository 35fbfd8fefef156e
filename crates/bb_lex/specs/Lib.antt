pub mod Bytes
pub mod Keywords
pub mod Fences
pub mod Machine
pub mod Text
pub mod Ranges
