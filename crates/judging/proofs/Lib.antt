-- Laws on the steps and the walk.
pub mod Stored
pub mod RowLaws
pub mod WalkParts
pub mod StepWalks
pub mod Coming
pub mod JudgingLaws
pub mod RowsUsed
pub mod PartsTaken
pub mod PlacesTaken
pub mod InstancesTaken
pub mod Goals
pub mod ByNumbers
pub mod StepsInNumbers
pub mod InNumbers
