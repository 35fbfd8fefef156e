pub mod FileLemmas
pub mod MemoryLemmas
pub mod SureLemmas
pub mod TellsNothing
mod Walks
