pub mod EveryIndex
pub mod Kept
pub mod AsRebuilt
