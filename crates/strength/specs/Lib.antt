-- What the strengths' calls promise. Read in this order.
pub mod Marks
pub mod Strengths
pub mod InNumbers
pub mod Finding
pub mod Places
pub mod Taking
