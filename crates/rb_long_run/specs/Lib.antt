pub mod Texts
pub mod Reports
pub mod Hearing
pub mod Letters
