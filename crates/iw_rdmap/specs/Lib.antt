pub mod Head
pub mod Judging
pub mod Laws
pub mod Terminate
