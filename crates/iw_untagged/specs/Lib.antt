pub mod Bound
pub mod Receiving
pub mod Store
pub mod Laws
