-- What is proved of the door: what it answers, when it opens, and what is handed to C.
pub mod Refusals
pub mod Answering
pub mod BeforeFacts
pub mod Widths
pub mod NoneBefore
pub mod Missing
pub mod Opening
pub mod Texts
