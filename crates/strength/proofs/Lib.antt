-- Laws that the crate's proofs and the crates above cite.
pub mod BitLaws
pub mod RowMarks
pub mod Naming
pub mod NamesPut
pub mod Reaching
pub mod Gaining
pub mod PairMore
pub mod PairsTaken
pub mod Telling
pub mod CountedNames
pub mod NamesTaken
pub mod WordsOfRows
pub mod Exchanged
pub mod StrengthLaws
pub mod TellingByNumbers
