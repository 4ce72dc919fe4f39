-- What the card search answers of a card that was written.
pub mod Written
pub mod Donor
