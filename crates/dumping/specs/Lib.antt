-- The definitions that the contracts of showing a file cite.
pub mod Faults
pub mod Records
pub mod Dumping
pub mod Stages
