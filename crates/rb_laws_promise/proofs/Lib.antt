pub mod Following
pub mod Evidence
pub mod Promise
pub mod Whole
pub mod Passes
pub mod Shares
pub mod Strategies
