pub mod Relation
pub mod Plain
pub mod Step
pub mod Simulation
pub mod Theorem
pub mod Results
pub mod Inhabited
pub mod Hand
