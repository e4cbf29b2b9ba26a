pub mod Events
pub mod Servers
