pub mod Booked
pub mod Counting
pub mod Filed
pub mod Fitting
pub mod Granted
pub mod Present
pub mod Putting
pub mod Readable
