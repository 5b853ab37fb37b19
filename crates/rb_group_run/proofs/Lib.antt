pub mod Scopes
pub mod Beyond
pub mod Held
pub mod Texts
pub mod TurnsWritten
