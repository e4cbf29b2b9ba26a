pub mod Progress
pub mod Emissions
pub mod Far
pub mod There
pub mod Sent
pub mod Binding
pub mod Marks
