pub mod EveryIndex
pub mod Kept
pub mod Names
pub mod NoClash
pub mod Traces
pub mod AsRebuilt
pub mod Free
