-- What the contracts of this crate cite.
pub mod Limits
pub mod Joining
pub mod Answers
pub mod Accepted
