pub mod Added
pub mod Alike
pub mod Frames
pub mod Owned
pub mod Rightness
pub mod Served
pub mod Voted
