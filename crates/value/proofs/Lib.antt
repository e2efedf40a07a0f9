pub mod Numbered
pub mod Progress
pub mod SpansLaws
pub mod Turns
pub mod Reader
pub mod Laws
pub mod Encoding
