-- What is claimed of reading a file.
pub mod Path
pub mod Bytes
pub mod Fill
pub mod Elsewhere
pub mod Reasons
