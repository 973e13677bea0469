-- What the contracts of this crate cite.
pub mod Limits
pub mod Marks
pub mod Faults
pub mod Contents
pub mod Answers
pub mod Lending
pub mod OfBook
