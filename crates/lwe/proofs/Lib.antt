pub mod Arrays
mod Places
pub mod FiniteSums
mod Residues
mod RowLoops
mod Rows
mod Steps
pub mod DriftIdentity
