-- What the walk over the bytes of a proof promises.
pub mod Walking
pub mod WalkCalls
pub mod Numbers
