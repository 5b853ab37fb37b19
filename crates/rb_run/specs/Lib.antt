pub mod Seen
pub mod Turns
pub mod Reports
pub mod Tallies
pub mod Runs
pub mod Histories
