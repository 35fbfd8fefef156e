pub mod BoundLemmas
pub mod FileLemmas
pub mod ChosenLemmas
pub mod WovenLemmas
