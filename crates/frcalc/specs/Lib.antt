pub mod Evaluations
pub mod Faults
pub mod Items
pub mod Feeding
pub mod Program
pub mod Taking
