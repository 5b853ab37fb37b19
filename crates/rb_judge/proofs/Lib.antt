pub mod SomeNode
pub mod Sights
pub mod Sides
pub mod Noting
pub mod SameVerdicts
