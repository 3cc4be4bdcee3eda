-- Laws on the walk.
pub mod Surroundings
pub mod Falling
pub mod Inferring
pub mod Assuming
pub mod Checking
pub mod CheckingCases
pub mod ByNumbers
