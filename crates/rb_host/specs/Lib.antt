pub mod Acts
pub mod Calls
pub mod Handles
pub mod Nodes
pub mod Owns
pub mod Seats
