pub mod Faults
pub mod FeeRequests
pub mod Replies
pub mod Requests
