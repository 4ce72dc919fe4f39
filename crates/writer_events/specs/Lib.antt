-- What is claimed of histories in which writing calls stand between events.
pub mod Happenings
pub mod ByIndex
