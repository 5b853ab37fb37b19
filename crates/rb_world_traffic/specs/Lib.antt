pub mod Arriving
pub mod Departing
pub mod Saying
pub mod Spans
