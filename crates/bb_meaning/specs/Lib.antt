pub mod Values
pub mod Statements
pub mod Outcome
pub mod Denotes
pub mod LoopNames
