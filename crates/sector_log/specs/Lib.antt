pub mod LookUp
pub mod Store
pub mod Parts
pub mod Promises
pub mod Behind
