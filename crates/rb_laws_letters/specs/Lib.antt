pub mod Sent
pub mod Offers
pub mod Laws
