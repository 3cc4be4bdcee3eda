-- Laws that the crate's proofs cite.
pub mod Fronts
pub mod Pressed
