pub mod Numbering
pub mod NumberingCalls
pub mod NumberingLaws
pub mod OneNumbering
pub mod UsedTwice
pub mod Uses
