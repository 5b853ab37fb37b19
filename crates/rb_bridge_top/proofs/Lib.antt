pub mod Accepted
pub mod Opening
pub mod Answered
pub mod Completed
pub mod OneForm
