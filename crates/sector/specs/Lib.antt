pub mod Sector
pub mod Near
