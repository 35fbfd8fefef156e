pub mod Spans
pub mod Given
pub mod OneChoice
pub mod Bound
pub mod Marking
pub mod Turning
pub mod Degrees
pub mod Existing
