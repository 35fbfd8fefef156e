pub mod Ends
pub mod Needs
pub mod Steps
pub mod Checked
