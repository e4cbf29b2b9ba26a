pub mod Enhanced
pub mod Frame
pub mod Laws
pub mod Own
pub mod Peer
pub mod State
