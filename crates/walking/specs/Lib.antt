pub mod Explanations
pub mod Endings
pub mod PutLaws
pub mod ExplanationLaws
pub mod CheckLaws
