-- Laws of the rules: of outcomes and answers, of every get and put, and the two of demand 3.
pub mod Related
pub mod Cells
pub mod Invariant
pub mod Outcomes
pub mod Answers
pub mod Embedding
