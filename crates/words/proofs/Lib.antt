pub mod AnswersLaws
pub mod Starts
