pub mod Ownership
pub mod Octets
pub mod Contents
