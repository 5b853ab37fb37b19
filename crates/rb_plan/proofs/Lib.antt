pub mod Failing
pub mod Offsets
