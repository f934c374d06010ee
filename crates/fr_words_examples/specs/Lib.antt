pub mod Filling
pub mod Settled
