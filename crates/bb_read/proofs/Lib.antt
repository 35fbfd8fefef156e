pub mod FileLemmas
pub mod TextLemmas
pub mod WriteLemmas
pub mod LineLemmas
pub mod MadeBits
pub mod TextEnds
pub mod ReadNames
