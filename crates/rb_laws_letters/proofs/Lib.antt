pub mod Readings
pub mod Recorded
pub mod Received
pub mod Senders
pub mod Arrived
