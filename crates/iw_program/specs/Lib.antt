pub mod FaultText
pub mod Replay
pub mod Status
