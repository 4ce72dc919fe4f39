-- The laws that the functions' proofs cite.
pub mod Choose
pub mod Tops
