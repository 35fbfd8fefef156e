pub mod Answered
pub mod Chain
pub mod Layout
pub mod Clashes
pub mod Coded
pub mod Answers
pub mod Tables
