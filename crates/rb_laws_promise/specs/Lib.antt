pub mod Evidence
pub mod Laws
pub mod Promise
pub mod Shares
pub mod Strategies
