pub mod Integers
pub mod Lifted
