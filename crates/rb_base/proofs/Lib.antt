pub mod Plain
pub mod Counts
pub mod Sets
pub mod SetSizes
pub mod SetLoops
