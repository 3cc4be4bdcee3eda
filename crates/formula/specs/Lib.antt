-- What a formula in bytes means.
pub mod PutIn
pub mod Binders
pub mod Ends
pub mod Meaning
pub mod Comparing
pub mod PartPromises
pub mod Numbers
