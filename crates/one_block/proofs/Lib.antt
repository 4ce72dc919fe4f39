pub mod OneBlock
pub mod Messages
pub mod Parts
