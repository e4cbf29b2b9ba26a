pub mod Cuts
pub mod Sending
pub mod Filled
pub mod Awaited
pub mod Order
pub mod Limits
