pub mod Splices
pub mod Receivings
pub mod Placements
pub mod Bounds
