pub mod Building
pub mod Distances
pub mod Fits
pub mod Lifting
