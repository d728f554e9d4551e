pub mod Numerals
pub mod Widths
pub mod Cuts
pub mod Reading
pub mod Tables
