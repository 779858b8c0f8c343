pub mod Bytes
pub mod Faults
pub mod Headers
pub mod Messages
pub mod Views
pub mod Examples
