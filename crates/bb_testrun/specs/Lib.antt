pub mod Control
pub mod Held
pub mod Traced
pub mod Computes
pub mod Reading
pub mod SignatureSoFar
pub mod ComesOut
