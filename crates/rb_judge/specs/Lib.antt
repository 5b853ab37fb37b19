pub mod Sights
pub mod Kinds
pub mod Stages
