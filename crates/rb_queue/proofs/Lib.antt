pub mod Sources
pub mod First
pub mod Arrivals
pub mod Later
pub mod Readiness
pub mod EmptyQueues
pub mod Besides
pub mod Bare
mod Idle
