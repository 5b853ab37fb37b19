pub mod Hosts
pub mod Reading
pub mod Rules
pub mod Onsets
pub mod Acceptance
