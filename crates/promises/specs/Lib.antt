pub mod Requests
pub mod Histories
pub mod Corollaries
pub mod Dates
