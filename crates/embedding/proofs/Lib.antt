pub mod EmbeddingAnswers
pub mod EmbeddingLaws
