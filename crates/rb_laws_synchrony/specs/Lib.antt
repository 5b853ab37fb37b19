pub mod OneFrame
pub mod OneStage
pub mod Laws
