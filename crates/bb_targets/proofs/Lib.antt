pub mod MarkLaws
pub mod Adding
pub mod AddedSteps
pub mod AddedCells
pub mod Twice
