pub mod Answering
pub mod Words
