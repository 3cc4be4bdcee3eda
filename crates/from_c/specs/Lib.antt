-- What C hands over, and what it gets back. Read in this order.
pub mod Numbers
pub mod InARow
pub mod Records
pub mod Pairs
pub mod Values
pub mod Packing
pub mod Calls
