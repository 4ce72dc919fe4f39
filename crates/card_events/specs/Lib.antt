-- What the card search answers at each moment of whatever happens to a log.
pub mod Damaged
