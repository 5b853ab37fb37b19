pub mod Soon
pub mod Passing
pub mod Searches
pub mod Listeners
pub mod Stages
pub mod Waking
pub mod Steps
