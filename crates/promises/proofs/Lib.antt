-- What the demands say in plain terms.
pub mod Greeted
pub mod Outcomes
pub mod Keeps
pub mod Dates
pub mod Uncovered
pub mod Known
pub mod Reflected
pub mod Twelve
pub mod Moment
pub mod Lost
pub mod Histories
pub mod Hurt
pub mod Corollaries
pub mod Doubt
