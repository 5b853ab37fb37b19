pub mod Fields
pub mod Header
pub mod Entries
pub mod Writing
pub mod Spelling
pub mod Cursor
pub mod LogText
pub mod Laws
