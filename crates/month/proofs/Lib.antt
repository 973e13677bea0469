pub mod Begun
pub mod Carrying
pub mod Pushed
pub mod Within
pub mod Asking
pub mod Taking
pub mod Rearranging
pub mod Running
