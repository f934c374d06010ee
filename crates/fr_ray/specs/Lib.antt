pub mod Rays
pub mod Forms
pub mod Reading
pub mod Writing
pub mod Laws
