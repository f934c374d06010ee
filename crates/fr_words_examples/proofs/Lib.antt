pub mod Fillings
pub mod Settling
pub mod Squares
mod AddingRows
