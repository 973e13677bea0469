-- The definitions that the contracts of a plan cite.
pub mod Limits
pub mod Segments
pub mod Places
pub mod Faults
pub mod Contents
pub mod Questions
pub mod Calls
pub mod WellMade
pub mod View
pub mod OfPlan
