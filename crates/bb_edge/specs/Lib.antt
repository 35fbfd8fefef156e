pub mod Causes
pub mod Told
pub mod Files
pub mod Calls
pub mod Memory
pub mod Outside
pub mod Sure
