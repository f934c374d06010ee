pub mod Codes
pub mod Listings
pub mod Walked
pub mod Laws
pub mod Texts
pub mod Readings
pub mod CycleScans
