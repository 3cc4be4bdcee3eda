-- What the door answers, and when it opens.
pub mod Holding
pub mod Door
pub mod Opens
