pub mod Denials
pub mod Covers
