mod Quoting
mod Tallies
mod Worked
mod Writing
pub mod Segments
pub mod Adding
pub mod Reporting
