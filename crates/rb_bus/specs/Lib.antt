pub mod Access
pub mod Buses
pub mod Calls
pub mod Handles
pub mod Owns
pub mod Shown
