pub mod Padded
pub mod Bounded
pub mod Reading
pub mod Writing
pub mod Insertion
pub mod Cycles
