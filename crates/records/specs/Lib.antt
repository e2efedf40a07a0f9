pub mod Anew
pub mod AnewLaws
