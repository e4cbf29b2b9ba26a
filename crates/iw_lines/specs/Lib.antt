pub mod Handed
pub mod Waiting
pub mod Slow
pub mod Line
pub mod Lines
pub mod Lends
