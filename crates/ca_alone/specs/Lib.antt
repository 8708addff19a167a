pub mod Reading
pub mod Standing
pub mod Lone
pub mod Answers
pub mod OwnTurn
pub mod Schedule
pub mod Stirring
