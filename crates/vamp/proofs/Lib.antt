mod Calls
pub mod Kept
pub mod Memory
pub mod Onward
pub mod Order
mod Performs
pub mod Sequence
mod Shifts
mod Tests
pub mod Unique
pub mod Zeros
