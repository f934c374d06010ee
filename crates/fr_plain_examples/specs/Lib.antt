pub mod Scripts
pub mod Powers
pub mod Conjugates
pub mod Questions
pub mod Definitions
pub mod Held
