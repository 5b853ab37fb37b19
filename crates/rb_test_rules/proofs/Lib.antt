pub mod Alone
pub mod LawfulTests
