-- What the public calls give back.
pub mod Gives
