pub mod Bits
pub mod Marking
pub mod Counting
pub mod Lookup
pub mod Bounds
pub mod Alike
