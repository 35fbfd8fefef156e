pub mod Mirrors
pub mod Normal
