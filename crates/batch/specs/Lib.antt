pub mod Blank
pub mod Loaded
pub mod Batches
pub mod Views
