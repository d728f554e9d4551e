pub mod Lines
pub mod Segments
