pub mod Bridges
pub mod Crossings
pub mod Texts
