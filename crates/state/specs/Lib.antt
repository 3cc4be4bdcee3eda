-- What the state's calls tell.
pub mod Standing
