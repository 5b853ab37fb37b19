pub mod Values
pub mod Histories
pub mod Held
pub mod BusValues
pub mod Times
pub mod OneSlot
pub mod Laws
