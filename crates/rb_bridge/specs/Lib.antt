pub mod Refusals
pub mod Receivers
pub mod Holding
pub mod Handing
pub mod Running
pub mod Passing
pub mod Sides
pub mod Crossing
