-- What is claimed of the writer of files: `Held`, what is stored; `ReadBack`, what is read.
pub mod Held
pub mod ReadBack
pub mod Asking
pub mod Walk
