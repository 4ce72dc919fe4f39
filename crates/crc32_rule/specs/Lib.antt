-- The rule of CRC-32 and what is promised of it.
pub mod Crc32
pub mod Burst
pub mod Shows
pub mod Vectors
