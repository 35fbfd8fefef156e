pub mod LoopLaws
pub mod PortLaws
pub mod Rows
pub mod WithinLaws
pub mod NameLaws
pub mod Arities
pub mod DenotedLaws
pub mod NetlistBits
