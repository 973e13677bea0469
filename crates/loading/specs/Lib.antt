-- What the contracts of this crate cite.
pub mod Faults
pub mod Left
pub mod Layers
pub mod Loading
pub mod Stages
