pub mod Lanes
pub mod Sent
pub mod EntryLists
pub mod Heard
pub mod Says
pub mod Arrivals
pub mod Copies
