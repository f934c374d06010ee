pub mod Tables
pub mod Faults
pub mod Names
pub mod Evaluation
