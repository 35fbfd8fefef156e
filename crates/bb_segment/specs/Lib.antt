pub mod Walks
pub mod Among
pub mod Cutting
