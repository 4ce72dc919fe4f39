pub mod Visits
pub mod Unpacked
