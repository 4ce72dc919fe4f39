-- The returns of the code.
pub mod Returns
