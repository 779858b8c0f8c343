pub mod Faults
pub mod Matrices
pub mod Replies
pub mod Rows
pub mod Tables
pub mod Expansion
pub mod Expanding
