pub mod ByItself
pub mod Closing
pub mod Laws
pub mod OwnMoments
pub mod PendingEvents
pub mod Promise
pub mod RunningNodes
