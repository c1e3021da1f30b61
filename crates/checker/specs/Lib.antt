pub mod Checks
pub mod Runs
pub mod Seven
pub mod Inner
