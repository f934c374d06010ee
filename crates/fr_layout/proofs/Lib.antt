pub mod Spots
pub mod Numbers
pub mod Automata
pub mod Stays
pub mod Machines
