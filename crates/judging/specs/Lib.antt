-- What the steps and the walk over the bytes promise. Read in this order.
pub mod RowsOf
pub mod RowNumbers
pub mod InNumbers
pub mod Judging
pub mod Pieces
pub mod StepPromises
pub mod Numbers
