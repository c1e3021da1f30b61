pub mod Demand
pub mod Calls
pub mod Examples
pub mod Starred
