pub mod Drawing
pub mod Message
pub mod Parts
