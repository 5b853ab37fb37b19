pub mod BusParts
pub mod EntryParts
pub mod Distinct
pub mod Finding
pub mod LawfulEntries
