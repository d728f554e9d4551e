pub mod Siblings
pub mod Typing
