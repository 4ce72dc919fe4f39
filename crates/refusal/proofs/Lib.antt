pub mod Nowhere
