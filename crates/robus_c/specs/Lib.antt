pub mod Words
pub mod Held
pub mod Put
pub mod Bus
pub mod Bridge
pub mod Picture
