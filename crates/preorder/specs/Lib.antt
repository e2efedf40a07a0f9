pub mod Numbering
pub mod NumberingLaws
pub mod Uses
pub mod NumberAnswer
pub mod NumberingCalls
pub mod NumberingExamples
pub mod OneNumbering
pub mod UsedTwice
