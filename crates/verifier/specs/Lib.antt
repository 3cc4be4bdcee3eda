-- What verify and the direct check promise.
pub mod Verifying
