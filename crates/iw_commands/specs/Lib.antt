pub mod Lines
pub mod Port
pub mod Printed
pub mod Starting
pub mod Status
