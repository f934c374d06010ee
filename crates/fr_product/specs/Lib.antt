pub mod Products
pub mod Limits
pub mod Growing
pub mod Spreading
