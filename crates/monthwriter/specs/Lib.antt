-- The definitions that the contracts of the writer cite.
pub mod Refusals
pub mod Written
pub mod Placing
