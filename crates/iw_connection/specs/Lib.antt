pub mod Steps
pub mod Filling
pub mod Within
pub mod Marking
