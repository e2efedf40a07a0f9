pub mod Alike
pub mod Calls
pub mod Plans
pub mod Straight
pub mod Undo
