pub mod Fitting
pub mod Refused
