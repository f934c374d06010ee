pub mod Totals
pub mod Weaving
pub mod Trees
pub mod Standing
