-- Laws that the crate's proofs and the crates above cite.
pub mod Placing
pub mod Searching
pub mod Moving
pub mod Putting
pub mod RisingLaws
