pub mod Mirroring
pub mod Outside
pub mod Flops
pub mod Numbered
pub mod Ranks
pub mod Few
pub mod Standing
pub mod Whole
