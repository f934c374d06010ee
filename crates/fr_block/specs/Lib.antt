pub mod Blocks
pub mod Closures
pub mod Elements
