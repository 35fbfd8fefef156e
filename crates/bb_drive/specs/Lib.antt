pub mod Nets
pub mod Clock
pub mod Origins
pub mod Tallies
pub mod Within
pub mod NamedOf
