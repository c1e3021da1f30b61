pub mod Effects
pub mod Record
