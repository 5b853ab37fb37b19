pub mod Causes
pub mod Bytes
pub mod Memory
pub mod Standard
pub mod Writing
pub mod Reading
