pub mod Ways
pub mod AsScan
pub mod Entering
pub mod OfScore
pub mod Short
