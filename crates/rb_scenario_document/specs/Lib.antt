pub mod Walk
pub mod Fields
pub mod Forms
pub mod Shown
pub mod Values
pub mod Names
