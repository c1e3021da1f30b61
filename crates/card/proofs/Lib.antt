pub mod Tab
pub mod Accepted
pub mod Loading
pub mod Memory
pub mod Results
