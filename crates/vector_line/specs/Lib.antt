pub mod Faults
pub mod Lines
pub mod Arguments
pub mod Shakes
pub mod Refusals
pub mod Rows
pub mod Samples
pub mod Answers
