-- Laws that the crate's proofs cite.
pub mod RowLaws
pub mod TooMany
pub mod ValuesRead
pub mod Presses
pub mod HandedBack
pub mod OfficeCalls
pub mod Unpacking
pub mod RecordParts
