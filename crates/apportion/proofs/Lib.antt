pub mod Admitted
pub mod HandedOut
pub mod Placing
