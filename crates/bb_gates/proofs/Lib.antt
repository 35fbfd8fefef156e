pub mod Grounding
pub mod StepLaws
pub mod Growing
