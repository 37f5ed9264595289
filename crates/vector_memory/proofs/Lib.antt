pub mod Marking
pub mod Sums
