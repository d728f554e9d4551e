pub mod Groups
pub mod Taken
pub mod Ids
pub mod Placing
pub mod Seeking
pub mod Filling
pub mod Siblings
pub mod Finding
