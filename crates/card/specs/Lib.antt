pub mod Card
pub mod Work
