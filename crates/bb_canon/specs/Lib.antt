pub mod Along
pub mod Drafting
pub mod Faults
pub mod Sections
pub mod Toward
