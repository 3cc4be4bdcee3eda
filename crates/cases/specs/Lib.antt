-- A case, and what is printed for it. Read in this order.
pub mod Hex
pub mod CaseLines
pub mod Case
pub mod Calls
pub mod Found
