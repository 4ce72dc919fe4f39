-- What is answered is small enough to pack, and is read back as it was.
pub mod Numbers
pub mod Doubts
pub mod Unpacked
