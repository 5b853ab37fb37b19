pub mod Advancing
pub mod Replaying
pub mod Overhearing
pub mod ListeningOn
