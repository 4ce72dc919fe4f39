-- The laws of a visit.
pub mod Visits
