pub mod Audited
pub mod Certified
pub mod Signed
pub mod Passing
pub mod Faults
