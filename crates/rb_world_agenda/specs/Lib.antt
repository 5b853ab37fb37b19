pub mod Holding
pub mod Agenda
pub mod Fronts
pub mod Fours
