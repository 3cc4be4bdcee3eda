-- Laws that the crate's proofs cite.
pub mod Terms
pub mod Passes
