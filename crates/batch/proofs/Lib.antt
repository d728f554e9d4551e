pub mod Whole
pub mod Accepted
pub mod Sets
pub mod Seen
pub mod Buffers
