-- The definitions that the contracts of the calendar cite.
pub mod Calendar
pub mod OfPeriod
pub mod Rounding
