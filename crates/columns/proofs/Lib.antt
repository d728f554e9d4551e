pub mod Coded
pub mod Siblings
pub mod Heading
pub mod Mapping
