-- What the contracts of this crate cite.
pub mod Limits
pub mod Blocks
pub mod FileWords
