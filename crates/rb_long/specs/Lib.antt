pub mod Spelling
pub mod Reading
pub mod Readers
pub mod Waiting
pub mod Senders
pub mod Delivered
