pub mod Faults
pub mod Limits
pub mod Matrices
pub mod Exchange
pub mod Images
pub mod Drifts
pub mod Examples
