-- What two runs of sectors are, read as one.
pub mod Runs
