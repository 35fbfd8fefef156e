pub mod StackLemmas
pub mod FeedLemmas
