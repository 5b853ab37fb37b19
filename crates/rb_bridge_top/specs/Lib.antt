pub mod Words
pub mod Pages
pub mod Statuses
pub mod Inputs
pub mod Answers
pub mod Promise
