-- Laws of the log, of a row's image, and of a sound block. `Tests`: tests taken apart; `Facts`, `Payloads`, `Passed`: steps on the way.
pub mod Tests
pub mod At
pub mod Used
pub mod Joined
pub mod Facts
pub mod Image
pub mod Written
pub mod Payloads
pub mod Passed
pub mod Stands
pub mod Sound
pub mod Apart
pub mod Alike
pub mod Counts
