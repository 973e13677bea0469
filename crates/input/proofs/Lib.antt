mod Ending
pub mod Giving
mod Placing
pub mod Runs
