pub mod Texts
pub mod Heard
pub mod Words
pub mod Histories
