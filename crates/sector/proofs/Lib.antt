pub mod Editions
pub mod Dates
pub mod Encode
pub mod Fields
pub mod Unfit
