-- Laws on going on from a ledger.
pub mod Stopping
pub mod Giving
pub mod Asking
pub mod Asked
pub mod Listing
pub mod ListNumbers
pub mod NumbersAsked
pub mod RoomInNumbers
