pub mod Ownership
pub mod Octets
pub mod Lending
