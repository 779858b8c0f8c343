pub mod Faults
pub mod Laws
pub mod Tables
pub mod Bounds
pub mod Replies
pub mod Examples
