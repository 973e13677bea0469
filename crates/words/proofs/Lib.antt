mod Collecting
mod Placing
pub mod Numbering
pub mod Reading
pub mod Spelling
