pub mod Faults
pub mod Trials
pub mod Lines
