-- The definitions, in reading order.
-- what a batch is
pub mod Forest
pub mod Model
pub mod Lists
pub mod Equal
pub mod Codes
-- what a file means
pub mod Items
pub mod Schema
pub mod Columns
pub mod File
pub mod Encode
pub mod Keeps
pub mod Accepts
-- slots and picks
pub mod Slots
pub mod Access
pub mod Picks
-- rows and refusals
pub mod Literals
pub mod Rows
pub mod Converts
-- counts
pub mod Reaches
pub mod Nans
pub mod Table
pub mod CounterLaw
-- the walk, and its two visitors
pub mod Walk
pub mod Converter
pub mod Counter
-- printed text
pub mod Text
pub mod Print
-- worked cases
pub mod Samples
pub mod WorkedCases
