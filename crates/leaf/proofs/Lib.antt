-- The laws of runs and of what is below a score.
pub mod Places
pub mod Steps
pub mod Under
