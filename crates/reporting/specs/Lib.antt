-- The definitions that the contract of a report cites.
pub mod Reporting
