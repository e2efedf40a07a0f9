pub mod EmbeddingLaws
pub mod EmbeddingAnswers
pub mod Deeper
pub mod Whole
