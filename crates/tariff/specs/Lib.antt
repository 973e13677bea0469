-- The definitions that the contracts of the tariff cite.
pub mod Limits
pub mod Faults
pub mod Services
pub mod Totals
pub mod Fees
pub mod Bounds
