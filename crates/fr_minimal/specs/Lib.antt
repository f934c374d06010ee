pub mod Smallest
pub mod Groups
pub mod Searches
