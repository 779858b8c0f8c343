pub mod Rotation
pub mod Permutation
pub mod Sponge
pub mod KnownOutputs
