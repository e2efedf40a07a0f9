pub mod Pieces
pub mod Saying
pub mod Telling
pub mod Flat
pub mod Whole
pub mod Answer
pub mod Small
