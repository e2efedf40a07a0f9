pub mod Member
pub mod Tags
