pub mod File
pub mod Numbers
pub mod Judging
pub mod Faults
pub mod Reading
pub mod Inverse
pub mod View
pub mod Whole
