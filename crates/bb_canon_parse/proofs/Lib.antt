pub mod Derived
pub mod LineKinds
pub mod Lined
pub mod Spelt
pub mod SpeltLines
pub mod Takes
