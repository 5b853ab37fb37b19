pub mod Draws
pub mod Generated
pub mod Text
pub mod Table
