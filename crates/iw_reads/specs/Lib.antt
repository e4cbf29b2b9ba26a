pub mod Outstanding
pub mod Source
pub mod Response
pub mod Requests
pub mod Laws
