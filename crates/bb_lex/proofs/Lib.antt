pub mod ByteLemmas
pub mod CappedLemmas
pub mod Feeding
pub mod Runs
pub mod Spelled
pub mod Readings
pub mod RangeLemmas
