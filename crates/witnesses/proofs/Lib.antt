-- There is something to speak of.
pub mod Splice
pub mod Hurts
pub mod MayBe
pub mod Stored
pub mod Editions
pub mod Witness
