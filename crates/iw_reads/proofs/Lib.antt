pub mod Checks
pub mod Limits
pub mod Responses
