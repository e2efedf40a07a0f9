pub mod Alike
pub mod Straight
pub mod Calls
pub mod Examples
