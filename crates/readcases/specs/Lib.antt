pub mod Cases
pub mod Hex
pub mod Parts
