pub mod Records
pub mod Telling
pub mod Waiting
pub mod Grouping
pub mod Holding
pub mod Settling
pub mod Changing
