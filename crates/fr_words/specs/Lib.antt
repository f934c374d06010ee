pub mod Members
pub mod Notes
pub mod Rule
pub mod Lawful
pub mod Asks
pub mod Hands
pub mod Laws
