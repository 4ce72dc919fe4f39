-- The laws of the schedule and of the ring.
pub mod Schedule
