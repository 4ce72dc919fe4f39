-- The laws that the functions of `way_down` cite.
pub mod Digits
pub mod Counted
pub mod Steps
