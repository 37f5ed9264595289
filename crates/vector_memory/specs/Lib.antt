pub mod Checksum
pub mod Marks
