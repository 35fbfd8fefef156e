pub mod CommandLemmas
pub mod FileLemmas
pub mod EndLemmas
pub mod PassLemmas
