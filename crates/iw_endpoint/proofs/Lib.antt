pub mod Lists
pub mod Numbers
pub mod Filled
pub mod Opened
pub mod Tables
pub mod Parts
mod Forms
pub mod Steps
pub mod Alone
pub mod TakenIn
pub mod Used
pub mod Drawn
pub mod Rewritten
pub mod Calls
pub mod Limited
pub mod Spared
pub mod Unseen
pub mod Emptying
pub mod Settling
mod Shares
mod Registrations
