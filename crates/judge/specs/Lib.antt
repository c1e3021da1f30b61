pub mod Digits
pub mod Line
pub mod Because
pub mod Judging
pub mod Work
