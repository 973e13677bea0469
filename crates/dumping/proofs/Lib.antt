pub mod Following
pub mod InOrder
pub mod Judged
pub mod Showing
pub mod Spelled
