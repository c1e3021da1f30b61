pub mod Fields
pub mod Words
pub mod Touches
