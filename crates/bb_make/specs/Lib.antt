pub mod Files
pub mod Artifacts
pub mod Bounds
