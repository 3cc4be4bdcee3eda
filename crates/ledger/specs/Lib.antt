-- What a ledger keeps, and what it is to go on from one.
pub mod Books
pub mod Asking
pub mod Places
pub mod Numbers
