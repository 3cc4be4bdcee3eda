-- The procap text. Read in this order.
pub mod Words
pub mod Numbers
pub mod Text
pub mod Line
pub mod LinesInARow
pub mod RequestLines
pub mod Reader
pub mod Overviews
pub mod Places
pub mod Buffers
pub mod Calls
