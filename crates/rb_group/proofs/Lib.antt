pub mod Heards
pub mod Picked
pub mod Smalls
