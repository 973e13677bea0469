pub mod Kinds
pub mod Layout
pub mod Bytes
pub mod Windows
