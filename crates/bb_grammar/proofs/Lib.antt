pub mod Firsts
pub mod Puts
pub mod Reading
pub mod Idle
pub mod Statements
pub mod Headers
pub mod Spelled
pub mod BackSteps
pub mod BackExpressions
pub mod BackStatements
pub mod Back
pub mod Live
pub mod Exact
pub mod Sounds
mod Flaws
