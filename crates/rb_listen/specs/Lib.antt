pub mod Passes
pub mod Lessons
pub mod Stamps
pub mod Listening
pub mod Listeners
pub mod Following
pub mod Waking
