pub mod Behind
pub mod Tags
