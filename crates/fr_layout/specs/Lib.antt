pub mod Places
pub mod Packs
pub mod Meaning
pub mod Entries
pub mod Laws
