pub mod LevelLemmas
pub mod DepthLemmas
pub mod WorkLemmas
pub mod Depths
pub mod OrderLemmas
pub mod WalkLemmas
pub mod Sorting
