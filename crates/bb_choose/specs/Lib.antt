pub mod Arranged
pub mod Choice
pub mod Coding
pub mod Enough
pub mod ChosenPlan
