pub mod Half
pub mod Covered
pub mod Toggle
