pub mod Causes
pub mod Fronts
pub mod Listed
pub mod Told
pub mod Whole
pub mod Tags
