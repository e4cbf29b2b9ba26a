pub mod Crc
pub mod CrcWords
pub mod Fold
pub mod Lanes
pub mod Laws
