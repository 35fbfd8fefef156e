pub mod Numbers
pub mod Turns
pub mod ControlNets
pub mod OwnNames
