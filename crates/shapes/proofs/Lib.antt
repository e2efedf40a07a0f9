pub mod Answers
pub mod PartsLaws
pub mod TestsLaws
