pub mod Cutting
pub mod LargestRemainder
pub mod RunningCut
pub mod Rounding
pub mod Positions
pub mod Ranks
pub mod Steps
