pub mod Made
pub mod Causes
pub mod Outputs
pub mod Prepared
