pub mod ListLemmas
pub mod NetLemmas
pub mod FeedLemmas
pub mod AlikeLemmas
