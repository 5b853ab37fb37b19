pub mod OverBytes
pub mod BusOverBytes
pub mod BridgeOverBytes
pub mod PictureOverBytes
