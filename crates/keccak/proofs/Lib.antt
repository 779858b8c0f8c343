pub mod Complements
pub mod Bytes
pub mod Chunks
pub mod Padding
pub mod Rotations
