pub mod Groups
pub mod Answering
pub mod Keeping
pub mod Portions
