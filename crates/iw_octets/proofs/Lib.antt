pub mod Spelled
pub mod Segments
pub mod Runs
pub mod Front
pub mod Stags
pub mod Again
pub mod PartLemmas
