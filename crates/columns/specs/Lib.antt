pub mod Codes
pub mod Entries
pub mod Holders
pub mod Heads
pub mod Bodies
pub mod Text
