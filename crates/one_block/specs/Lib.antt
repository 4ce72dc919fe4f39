pub mod OneBlock
