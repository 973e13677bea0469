-- What the contracts of this crate cite.
pub mod Terms
pub mod Faults
pub mod Bookings
pub mod Calls
pub mod Stands
pub mod Laws
pub mod OfMonth
pub mod Opening
pub mod Gaps
