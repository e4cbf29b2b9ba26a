pub mod Arrived
pub mod Spans
pub mod Fields
pub mod Parts
pub mod Laws
pub mod InOrder
pub mod Nearest
pub mod Lending
