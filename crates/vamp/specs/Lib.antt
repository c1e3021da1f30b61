pub mod Memory
pub mod Events
pub mod Steps
pub mod Inner
