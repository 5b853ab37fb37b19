pub mod Waiting
pub mod Queued
pub mod Spots
pub mod Scanning
pub mod Keeping
