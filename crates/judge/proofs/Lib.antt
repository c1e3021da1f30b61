pub mod Appending
pub mod Ruled
pub mod Longer
pub mod Decides
pub mod Second
pub mod Judged
pub mod Explained
