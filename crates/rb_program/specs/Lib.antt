pub mod Statuses
pub mod Outside
