pub mod AheadOf
pub mod Brought
pub mod Laws
pub mod Room
pub mod Stamps
pub mod Sweeping
pub mod Told
