pub mod Passed
pub mod Refused
pub mod Told
