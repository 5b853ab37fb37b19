pub mod Judged
pub mod Holding
pub mod Calls
pub mod Laws
