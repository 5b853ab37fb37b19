pub mod Buffering
pub mod Recording
pub mod Observing
pub mod Laws
