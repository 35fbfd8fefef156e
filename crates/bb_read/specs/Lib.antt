pub mod Faults
pub mod Files
pub mod TextReading
pub mod Lines
pub mod Texts
pub mod NamedFaults
pub mod Ready
