pub mod Decimal
mod Lines
