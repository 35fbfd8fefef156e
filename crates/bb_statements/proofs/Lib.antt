pub mod HalfFaults
pub mod ToggleFaults
