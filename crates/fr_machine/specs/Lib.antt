pub mod Rows
pub mod Machine
pub mod Walks
pub mod Orders
pub mod Minimal
pub mod Inverses
