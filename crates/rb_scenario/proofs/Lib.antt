pub mod FitParts
pub mod Chain
pub mod First
pub mod Documents
pub mod LawfulParts
