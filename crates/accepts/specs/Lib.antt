pub mod Accepts
pub mod Marks
pub mod Kept
pub mod Calls
